-- Worked examples of the definitions: octets typed from ITU-T X.690, and octets that this profile refuses.
use Rattle.std.specs.Prelude.{◌≡◌, ℕ, pos, negsuc, Bool, true, false, List, [], ◌∷◌, map, Result, Ok, Err}
use Rattle.std.proofs.Common.{refl}
use Rattle.ber_core.specs.declared.element.Tag.{Tag}
use Rattle.ber_core.specs.declared.fault.BerError.{BerError}
use Rattle.ber_core.specs.declared.fault.BerError.TheVariants.{Short, BadTag, BadLength, BadContents}
use Rattle.ber_core.specs.Part.{Part}
use Rattle.ber_core.specs.Leaf.{integer_at, boolean_at, bits_at}
use Rattle.ber_core.specs.Reading.{definite_at, identifier_at, second_at, third_at, length_at, long_length_at, opening_at, passed_at, closing, either_at}
use Rattle.ber_core.specs.Respelling.{parts_in, respelled, definite}
use Rattle.ber_core.specs.Spelling.{digits, identifier_octets, integer_octets, length_octets, element_octets}

-- a function answers each row of a table with its second column
abbrev Answers : {A B : Type 0} → (A → B) → List (A × B) → Type 0
Answers f table = map (λ row. f row.0) table ≡ map (λ row. row.1) table

-- the first element, and what follows it
abbrev first : Tag → List ℕ → List ℕ → Result (Part × List ℕ) BerError
first tag contents rest = Ok (record { tag = tag; contents = contents }, rest)

abbrev tag : ℕ → Bool → ℕ → Tag
tag class constructed number = record { class = class; constructed = constructed; number = number }

-- 8.2.2, 8.8.2, 8.9.3, 8.14.3; tags of one to three octets; lengths that are longer than needed
elements : Answers definite_at (
    (1 ∷ 1 ∷ 255 ∷ [], first (tag 0 false 1) (255 ∷ []) []) ∷
    (5 ∷ 0 ∷ [], first (tag 0 false 5) [] []) ∷
    (48 ∷ 10 ∷ 22 ∷ 5 ∷ 83 ∷ 109 ∷ 105 ∷ 116 ∷ 104 ∷ 1 ∷ 1 ∷ 255 ∷ [], first (tag 0 true 16) (22 ∷ 5 ∷ 83 ∷ 109 ∷ 105 ∷ 116 ∷ 104 ∷ 1 ∷ 1 ∷ 255 ∷ []) []) ∷
    (67 ∷ 5 ∷ 74 ∷ 111 ∷ 110 ∷ 101 ∷ 115 ∷ [], first (tag 1 false 3) (74 ∷ 111 ∷ 110 ∷ 101 ∷ 115 ∷ []) []) ∷
    (162 ∷ 7 ∷ 67 ∷ 5 ∷ 74 ∷ 111 ∷ 110 ∷ 101 ∷ 115 ∷ [], first (tag 2 true 2) (67 ∷ 5 ∷ 74 ∷ 111 ∷ 110 ∷ 101 ∷ 115 ∷ []) []) ∷
    (4 ∷ 129 ∷ 2 ∷ 55 ∷ 3 ∷ 0 ∷ [], first (tag 0 false 4) (55 ∷ 3 ∷ []) (0 ∷ [])) ∷
    (4 ∷ 136 ∷ 0 ∷ 0 ∷ 0 ∷ 0 ∷ 0 ∷ 0 ∷ 0 ∷ 1 ∷ 55 ∷ [], first (tag 0 false 4) (55 ∷ []) []) ∷
    (254 ∷ 0 ∷ [], first (tag 3 true 30) [] []) ∷
    (159 ∷ 31 ∷ 0 ∷ [], first (tag 2 false 31) [] []) ∷
    (191 ∷ 127 ∷ 0 ∷ 128 ∷ [], first (tag 2 true 127) [] (128 ∷ [])) ∷
    (159 ∷ 129 ∷ 0 ∷ 0 ∷ [], first (tag 2 false 128) [] []) ∷
    (159 ∷ 255 ∷ 127 ∷ 1 ∷ 65 ∷ [], first (tag 2 false 16383) (65 ∷ []) []) ∷
    [])
unfolding definite_at identifier_at second_at third_at length_at long_length_at
elements = refl

-- the octets that are there decide first
no_elements : Answers definite_at (
    ([], Err Short) ∷
    (2 ∷ [], Err Short) ∷
    (2 ∷ 2 ∷ 1 ∷ [], Err Short) ∷
    (2 ∷ 129 ∷ [], Err Short) ∷
    (2 ∷ 130 ∷ 1 ∷ [], Err Short) ∷
    (2 ∷ 130 ∷ 0 ∷ 2 ∷ 1 ∷ [], Err Short) ∷
    (31 ∷ [], Err Short) ∷
    (31 ∷ 129 ∷ [], Err Short) ∷
    (31 ∷ 129 ∷ 0 ∷ [], Err Short) ∷
    (31 ∷ 30 ∷ [], Err BadTag) ∷
    (31 ∷ 0 ∷ 1 ∷ 0 ∷ [], Err BadTag) ∷
    (191 ∷ 128 ∷ [], Err BadTag) ∷
    (191 ∷ 128 ∷ 31 ∷ 0 ∷ [], Err BadTag) ∷
    (191 ∷ 129 ∷ 128 ∷ [], Err BadTag) ∷
    (191 ∷ 129 ∷ 128 ∷ 1 ∷ 0 ∷ [], Err BadTag) ∷
    (31 ∷ 30 ∷ 128 ∷ [], Err BadTag) ∷
    (48 ∷ 128 ∷ 0 ∷ 0 ∷ [], Err BadLength) ∷
    (48 ∷ 128 ∷ [], Err BadLength) ∷
    (4 ∷ 137 ∷ 0 ∷ 0 ∷ 0 ∷ 0 ∷ 0 ∷ 0 ∷ 0 ∷ 0 ∷ 0 ∷ [], Err BadLength) ∷
    (31 ∷ 31 ∷ 255 ∷ [], Err BadLength) ∷
    [])
unfolding definite_at identifier_at second_at third_at length_at long_length_at
no_elements = refl

-- two's complement (8.3), also with more octets than are needed
integers : Answers integer_at (
    (0 ∷ [], Ok (pos 0)) ∷
    (127 ∷ [], Ok (pos 127)) ∷
    (0 ∷ 128 ∷ [], Ok (pos 128)) ∷
    (1 ∷ 0 ∷ [], Ok (pos 256)) ∷
    (128 ∷ [], Ok (negsuc 127)) ∷
    (255 ∷ 127 ∷ [], Ok (negsuc 128)) ∷
    (255 ∷ [], Ok (negsuc 0)) ∷
    (0 ∷ 0 ∷ 0 ∷ 5 ∷ [], Ok (pos 5)) ∷
    (0 ∷ 255 ∷ 255 ∷ 255 ∷ 255 ∷ [], Ok (pos 4294967295)) ∷
    (128 ∷ 0 ∷ 0 ∷ 0 ∷ [], Ok (negsuc 2147483647)) ∷
    (127 ∷ 255 ∷ 255 ∷ 255 ∷ 255 ∷ 255 ∷ 255 ∷ 255 ∷ [], Ok (pos 9223372036854775807)) ∷
    (128 ∷ 0 ∷ 0 ∷ 0 ∷ 0 ∷ 0 ∷ 0 ∷ 0 ∷ [], Ok (negsuc 9223372036854775807)) ∷
    ([], Err BadContents) ∷
    (0 ∷ 0 ∷ 0 ∷ 0 ∷ 0 ∷ 0 ∷ 0 ∷ 0 ∷ 1 ∷ [], Err BadContents) ∷
    (255 ∷ 255 ∷ 255 ∷ 255 ∷ 255 ∷ 255 ∷ 255 ∷ 255 ∷ 255 ∷ [], Err BadContents) ∷
    [])
unfolding integer_at
integers = refl

-- truth values (8.2)
truths : Answers boolean_at (
    (0 ∷ [], Ok false) ∷
    (255 ∷ [], Ok true) ∷
    (1 ∷ [], Ok true) ∷
    ([], Err BadContents) ∷
    (0 ∷ 0 ∷ [], Err BadContents) ∷
    [])
truths = refl

-- bit strings (8.6, the example of 8.6.4.2)
bit_strings : Answers bits_at (
    (4 ∷ 10 ∷ 59 ∷ 95 ∷ 41 ∷ 28 ∷ 208 ∷ [], Ok (4, 10 ∷ 59 ∷ 95 ∷ 41 ∷ 28 ∷ 208 ∷ [])) ∷
    (0 ∷ [], Ok (0, [])) ∷
    (7 ∷ 128 ∷ [], Ok (7, 128 ∷ [])) ∷
    ([], Err BadContents) ∷
    (8 ∷ 128 ∷ [], Err BadContents) ∷
    (1 ∷ [], Err BadContents) ∷
    (8 ∷ [], Err BadContents) ∷
    [])
bit_strings = refl

-- the shortest identifiers (8.1.2)
identifiers : Answers identifier_octets (
    (tag 0 true 16, 48 ∷ []) ∷
    (tag 2 true 30, 190 ∷ []) ∷
    (tag 2 false 31, 159 ∷ 31 ∷ []) ∷
    (tag 2 true 127, 191 ∷ 127 ∷ []) ∷
    (tag 2 true 128, 191 ∷ 129 ∷ 0 ∷ []) ∷
    (tag 3 false 16383, 223 ∷ 255 ∷ 127 ∷ []) ∷
    (tag 1 false 0, 64 ∷ []) ∷
    [])
unfolding identifier_octets
identifiers = refl

-- the shortest lengths (8.1.3)
lengths : Answers length_octets (
    (0, 0 ∷ []) ∷
    (127, 127 ∷ []) ∷
    (128, 129 ∷ 128 ∷ []) ∷
    (201, 129 ∷ 201 ∷ []) ∷
    (255, 129 ∷ 255 ∷ []) ∷
    (256, 130 ∷ 1 ∷ 0 ∷ []) ∷
    (65535, 130 ∷ 255 ∷ 255 ∷ []) ∷
    (65536, 131 ∷ 1 ∷ 0 ∷ 0 ∷ []) ∷
    [])
unfolding length_octets digits
lengths = refl

-- the shortest two's complement (8.3.2)
spelled_integers : Answers integer_octets (
    (pos 0, 0 ∷ []) ∷
    (pos 127, 127 ∷ []) ∷
    (pos 128, 0 ∷ 128 ∷ []) ∷
    (negsuc 127, 128 ∷ []) ∷
    (negsuc 128, 255 ∷ 127 ∷ []) ∷
    (negsuc 0, 255 ∷ []) ∷
    (pos 32768, 0 ∷ 128 ∷ 0 ∷ []) ∷
    (negsuc 32767, 128 ∷ 0 ∷ []) ∷
    (pos 9223372036854775807, 127 ∷ 255 ∷ 255 ∷ 255 ∷ 255 ∷ 255 ∷ 255 ∷ 255 ∷ []) ∷
    (negsuc 9223372036854775807, 128 ∷ 0 ∷ 0 ∷ 0 ∷ 0 ∷ 0 ∷ 0 ∷ 0 ∷ []) ∷
    [])
unfolding digits
spelled_integers = refl

-- indefinite lengths (8.1.3.6 and 8.1.5): the end is 00 00 alone, and definite contents are not looked into
either_elements : Answers either_at (
    (163 ∷ 128 ∷ 0 ∷ 0 ∷ [], first (tag 2 true 3) [] []) ∷
    (163 ∷ 128 ∷ 0 ∷ 129 ∷ 0 ∷ 0 ∷ 0 ∷ 7 ∷ [], first (tag 2 true 3) (0 ∷ 129 ∷ 0 ∷ []) (7 ∷ [])) ∷
    (48 ∷ 128 ∷ 48 ∷ 128 ∷ 5 ∷ 0 ∷ 0 ∷ 0 ∷ 0 ∷ 0 ∷ [], first (tag 0 true 16) (48 ∷ 128 ∷ 5 ∷ 0 ∷ 0 ∷ 0 ∷ []) []) ∷
    (48 ∷ 4 ∷ 48 ∷ 128 ∷ 31 ∷ 30 ∷ [], first (tag 0 true 16) (48 ∷ 128 ∷ 31 ∷ 30 ∷ []) []) ∷
    (48 ∷ 128 ∷ 48 ∷ 2 ∷ 0 ∷ 0 ∷ 0 ∷ 0 ∷ [], first (tag 0 true 16) (48 ∷ 2 ∷ 0 ∷ 0 ∷ []) []) ∷
    (48 ∷ 128 ∷ [], Err Short) ∷
    (48 ∷ 128 ∷ 0 ∷ [], Err Short) ∷
    (48 ∷ 128 ∷ 48 ∷ 128 ∷ 0 ∷ 0 ∷ [], Err Short) ∷
    (48 ∷ 128 ∷ 4 ∷ 5 ∷ 0 ∷ 0 ∷ [], Err Short) ∷
    (4 ∷ 128 ∷ 0 ∷ 0 ∷ [], Err BadLength) ∷
    (48 ∷ 128 ∷ 0 ∷ 128 ∷ 0 ∷ 0 ∷ [], Err BadLength) ∷
    (48 ∷ 128 ∷ 4 ∷ 137 ∷ 0 ∷ 0 ∷ [], Err BadLength) ∷
    (48 ∷ 128 ∷ 31 ∷ 30 ∷ 0 ∷ 0 ∷ 0 ∷ [], Err BadTag) ∷
    (48 ∷ 128 ∷ 48 ∷ 128 ∷ 5 ∷ 0 ∷ 191 ∷ 128 ∷ [], Err BadTag) ∷
    [])
unfolding either_at opening_at passed_at closing definite_at identifier_at second_at third_at length_at long_length_at
either_elements = refl

-- elements that are spelled anew, as far as contents are elements
definites : Answers definite (
    (163 ∷ 128 ∷ 0 ∷ 129 ∷ 0 ∷ 0 ∷ 0 ∷ [], 163 ∷ 2 ∷ 0 ∷ 0 ∷ []) ∷
    (48 ∷ 128 ∷ 48 ∷ 128 ∷ 5 ∷ 0 ∷ 0 ∷ 0 ∷ 0 ∷ 0 ∷ [], 48 ∷ 4 ∷ 48 ∷ 2 ∷ 5 ∷ 0 ∷ []) ∷
    (48 ∷ 130 ∷ 0 ∷ 2 ∷ 48 ∷ 128 ∷ [], 48 ∷ 2 ∷ 48 ∷ 128 ∷ []) ∷
    [])
unfolding respelled parts_in either_at opening_at passed_at closing definite_at identifier_at second_at third_at length_at long_length_at element_octets identifier_octets length_octets digits
definites = refl
