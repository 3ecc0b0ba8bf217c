-- The first element from left to right, or what is wrong with the octets.
use Rattle.std.specs.Prelude.{ℕ, zero, suc, Option, Some, None, ◌+◌, ◌*◌, ◌-◌, ◌/◌, ◌%◌, List, [], ◌∷◌, length, take, drop, Result, Ok, Err, nat_lt, ◌==◌, if◌then◌else◌}
use Rattle.ber_core.specs.declared.element.Tag.{Tag}
use Rattle.ber_core.specs.declared.element.Lengths.{Lengths}
use Rattle.ber_core.specs.declared.element.Lengths.TheVariants.{Definite, Either}
use Rattle.ber_core.specs.declared.fault.BerError.{BerError}
use Rattle.ber_core.specs.declared.fault.BerError.TheVariants.{Short, BadTag, BadLength}
use Rattle.ber_core.specs.Part.{Part}
use Rattle.ber_core.specs.Element.{number_of, begins_end}

-- go on with what was read, or stop at the first error
infixl 10 ◌>>=◌
abbrev pub ◌>>=◌ : {A B E : Type 0} → Result A E → (A → Result B E) → Result B E
(Ok x) >>= f = f x
(Err e) >>= f = Err e

-- the tag of a number whose first identifier octet is given (ITU-T X.690, 8.1.2.2 and 8.1.2.5)
abbrev pub tag_at : ℕ → ℕ → Tag
tag_at a n = record { class = a / 64; constructed = (a / 32) % 2 == 1; number = n }

-- from the second octet that spells the number on, which is the last (ITU-T X.690, 8.1.2.4.2)
unfoldable pub third_at : ℕ → ℕ → List ℕ → Result (Tag × List ℕ) BerError
third_at a b [] = Err Short
third_at a b (c ∷ rest) = if nat_lt c 128 then Ok (tag_at a (128 * (b - 128) + c), rest) else Err BadTag

-- from the first octet that spells the number on (ITU-T X.690, 8.1.2.4.2)
unfoldable pub second_at : ℕ → List ℕ → Result (Tag × List ℕ) BerError
second_at a [] = Err Short
second_at a (b ∷ rest) =
    if nat_lt b 31 then Err BadTag
    else (if nat_lt b 128 then Ok (tag_at a b, rest)
    else (if b == 128 then Err BadTag else third_at a b rest))

-- the tag, and what follows its identifier (ITU-T X.690, 8.1.2)
unfoldable pub identifier_at : List ℕ → Result (Tag × List ℕ) BerError
identifier_at [] = Err Short
identifier_at (a ∷ rest) = if nat_lt (a % 32) 31 then Ok (tag_at a (a % 32), rest) else second_at a rest

-- a length of so many octets (ITU-T X.690, 8.1.3.5)
unfoldable pub long_length_at : ℕ → List ℕ → Result (ℕ × List ℕ) BerError
long_length_at k rest =
    if k == 0 then Err BadLength
    else (if nat_lt 8 k then Err BadLength
    else (if nat_lt (length rest) k then Err Short else Ok (number_of (take k rest), drop k rest)))

-- the definite length, and what follows it (ITU-T X.690, 8.1.3.3 to 8.1.3.5)
unfoldable pub length_at : List ℕ → Result (ℕ × List ℕ) BerError
length_at [] = Err Short
length_at (a ∷ rest) = if nat_lt a 128 then Ok (a, rest) else long_length_at (a - 128) rest

-- the first element with a definite length, and what follows it (ITU-T X.690, 8.1.1)
unfoldable pub definite_at : List ℕ → Result (Part × List ℕ) BerError
definite_at octets = do
  t ← identifier_at octets
  n ← length_at t.1
  if nat_lt (length n.1) n.0 then Err Short else Ok (record { tag = t.0; contents = take n.0 n.1 }, drop n.0 n.1)

-- the octet 80 stands in front: the tag before it, and what follows
abbrev pub opening_of : Tag → List ℕ → Option (Tag × List ℕ)
opening_of t [] = None
opening_of t (a ∷ rest) = if a == 128 then Some (t, rest) else None

abbrev pub opening_by : Result (Tag × List ℕ) BerError → Option (Tag × List ℕ)
opening_by (Ok x) = opening_of x.0 x.1
opening_by (Err e) = None

-- an identifier with the octet 80 in the place of a length, and what follows (ITU-T X.690, 8.1.3.6)
unfoldable pub opening_at : List ℕ → Option (Tag × List ℕ)
opening_at octets = opening_by (identifier_at octets)

-- how many contents of indefinite length are open after an element that begins so, or within it, and what follows
abbrev pub passed_by : ℕ → List ℕ → Option (Tag × List ℕ) → Result (ℕ × List ℕ) BerError
passed_by depth octets None = definite_at octets >>= λ x. Ok (suc depth, x.1)
passed_by depth octets (Some x) = if x.0.constructed then Ok (suc (suc depth), x.1) else Err BadLength

-- the same after the first element within so many and one, or after the end of the innermost
unfoldable pub passed_at : ℕ → List ℕ → Result (ℕ × List ℕ) BerError
passed_at depth octets = if begins_end octets then Ok (depth, drop 2 octets) else passed_by depth octets (opening_at octets)

-- what follows the ends of so many contents of indefinite length, of which the octets are the rest; in no more than so many steps
unfoldable pub closing : ℕ → ℕ → List ℕ → Result (List ℕ) BerError
closing steps zero octets = Ok octets
closing zero (suc depth) octets = Err Short
closing (suc steps) (suc depth) octets = passed_at depth octets >>= λ x. closing steps x.0 x.1

-- the contents before an end of contents, and what follows it
abbrev pub ended : Tag → List ℕ → List ℕ → Part × List ℕ
ended t octets rest = (record { tag = t; contents = take (length octets - length rest - 2) octets }, rest)

abbrev pub either_by : List ℕ → Option (Tag × List ℕ) → Result (Part × List ℕ) BerError
either_by octets None = definite_at octets
either_by octets (Some x) = if x.0.constructed then (closing (length x.1) 1 x.1 >>= λ rest. Ok (ended x.0 x.1 rest)) else Err BadLength

-- the first element with a definite or an indefinite length, and what follows it (ITU-T X.690, 8.1.1)
unfoldable pub either_at : List ℕ → Result (Part × List ℕ) BerError
either_at octets = either_by octets (opening_at octets)

-- the first element with a length of these forms, and what follows it
abbrev pub element_at : Lengths → List ℕ → Result (Part × List ℕ) BerError
element_at Definite octets = definite_at octets
element_at Either octets = either_at octets
