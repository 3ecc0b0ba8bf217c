-- Worked examples of data and types: contents typed from ISO 9506-2 and ITU-T X.690, and contents that this profile refuses.
use Rattle.std.specs.Prelude.{◌≡◌, ℕ, zero, suc, pos, negsuc, true, false, List, [], ◌∷◌, length, map, Some, None, Result, Ok, Err}
use Rattle.std.proofs.Common.{refl}
use Rattle.ber_core.specs.Leaf.{integer_at}
use Rattle.ber_core.specs.Reading.{definite_at, identifier_at, second_at, third_at, length_at, long_length_at}
use Rattle.ber_core.specs.Spelling.{digits, identifier_octets, length_octets, element_octets}
use Rattle.ber_forms.specs.Bits.{first_bits}
use Rattle.ber_forms.specs.Fault.{Fault}
use Rattle.ber_forms.specs.Fault as fault
use Rattle.ber_forms.specs.Value.{Value}
use Rattle.ber_forms.specs.Reading.{reading, at_end, integer_in, bits_in, defaulting, members_by, part_at, next_at, required_part, optional_part, required_by, chosen_by, optional_by, elements_at}
use Rattle.ber_forms.specs.Spelling.{spelling}
use Rattle.mms_types.specs.declared.identifier.Edition.TheVariants.{One}
use Rattle.mms_types.specs.Datum.{Datum, no_part, part}
use Rattle.mms_types.specs.Datum as datum
use Rattle.mms_types.specs.Shape.{Shape, no_field, field}
use Rattle.mms_types.specs.Shape as shape
use Rattle.pdu_names.specs.Editions.{lengths_of}
use Rattle.pdu_names.specs.Kinds.{choice}
use Rattle.pdu_data.specs.Data.{data_alternatives, data_choice}
use Rattle.pdu_data.specs.Types.{type_alternatives, type_choice}

-- a function answers each row of a table with its second column
abbrev Answers : {A B : Type 0} → (A → B) → List (A × B) → Type 0
Answers f table = map (λ row. f row.0) table ≡ map (λ row. row.1) table

-- ---- data

abbrev data_read : List ℕ → Result Value Fault
data_read octets = reading (lengths_of One) ((choice data_choice).form One) octets

abbrev says : Datum → Result Value Fault
says x = Ok ((choice data_choice).value x)

-- truth values, bit strings with their unused bits 0, integers of up to 8 octets, unsigned numbers of up to 32 bits
data_numbers : Answers data_read (
    (131 ∷ 1 ∷ 0 ∷ [], says (datum.boolean false)) ∷
    (131 ∷ 1 ∷ 255 ∷ [], says (datum.boolean true)) ∷
    (131 ∷ 0 ∷ [], Err fault.malformed) ∷
    (131 ∷ 2 ∷ 0 ∷ 0 ∷ [], Err fault.malformed) ∷
    (132 ∷ 1 ∷ 0 ∷ [], says (datum.bits 0 [])) ∷
    (132 ∷ 2 ∷ 4 ∷ 255 ∷ [], says (datum.bits 4 (240 ∷ []))) ∷
    (132 ∷ 0 ∷ [], Err fault.malformed) ∷
    (132 ∷ 2 ∷ 8 ∷ 255 ∷ [], Err fault.malformed) ∷
    (133 ∷ 1 ∷ 128 ∷ [], says (datum.integer (negsuc 127))) ∷
    (133 ∷ 8 ∷ 127 ∷ 255 ∷ 255 ∷ 255 ∷ 255 ∷ 255 ∷ 255 ∷ 255 ∷ [], says (datum.integer (pos 9223372036854775807))) ∷
    (133 ∷ 9 ∷ 0 ∷ 0 ∷ 0 ∷ 0 ∷ 0 ∷ 0 ∷ 0 ∷ 0 ∷ 1 ∷ [], Err fault.malformed) ∷
    (133 ∷ 0 ∷ [], Err fault.malformed) ∷
    (134 ∷ 5 ∷ 0 ∷ 255 ∷ 255 ∷ 255 ∷ 255 ∷ [], says (datum.unsigned 4294967295)) ∷
    (134 ∷ 5 ∷ 1 ∷ 0 ∷ 0 ∷ 0 ∷ 0 ∷ [], Err fault.malformed) ∷
    (134 ∷ 1 ∷ 255 ∷ [], Err fault.malformed) ∷
    [])
unfolding data_choice data_alternatives at_end integer_in bits_in first_bits part_at next_at required_part required_by chosen_by elements_at members_by integer_at definite_at identifier_at second_at third_at length_at long_length_at
data_numbers = refl

-- texts, arrays and structures; a wrong constructed bit, kinds that are left out, no element and two
data_parts : Answers data_read (
    (135 ∷ 5 ∷ 8 ∷ 64 ∷ 73 ∷ 15 ∷ 219 ∷ [], says (datum.floating (8 ∷ 64 ∷ 73 ∷ 15 ∷ 219 ∷ []))) ∷
    (137 ∷ 2 ∷ 0 ∷ 255 ∷ [], says (datum.octets (0 ∷ 255 ∷ []))) ∷
    (138 ∷ 2 ∷ 32 ∷ 126 ∷ [], says (datum.visible (32 ∷ 126 ∷ []))) ∷
    (138 ∷ 1 ∷ 31 ∷ [], Err fault.malformed) ∷
    (138 ∷ 1 ∷ 127 ∷ [], Err fault.malformed) ∷
    (140 ∷ 4 ∷ 0 ∷ 0 ∷ 3 ∷ 232 ∷ [], says (datum.time (0 ∷ 0 ∷ 3 ∷ 232 ∷ []))) ∷
    (161 ∷ 0 ∷ [], says (datum.array no_part)) ∷
    (161 ∷ 6 ∷ 133 ∷ 1 ∷ 1 ∷ 133 ∷ 1 ∷ 2 ∷ [], says (datum.array (part (datum.integer (pos 1)) (part (datum.integer (pos 2)) no_part)))) ∷ (
      162 ∷ 8 ∷ 131 ∷ 1 ∷ 255 ∷ 161 ∷ 3 ∷ 134 ∷ 1 ∷ 7 ∷ [],
      says (datum.structure (part (datum.boolean true) (part (datum.array (part (datum.unsigned 7) no_part)) no_part))),
    ) ∷
    (163 ∷ 1 ∷ 0 ∷ [], Err fault.malformed) ∷
    (129 ∷ 0 ∷ [], Err fault.malformed) ∷
    (136 ∷ 1 ∷ 0 ∷ [], Err fault.malformed) ∷
    (139 ∷ 1 ∷ 0 ∷ [], Err fault.malformed) ∷
    (141 ∷ 1 ∷ 0 ∷ [], Err fault.malformed) ∷
    ([], Err fault.malformed) ∷
    (131 ∷ 1 ∷ 0 ∷ 131 ∷ 1 ∷ 0 ∷ [], Err fault.malformed) ∷
    [])
unfolding data_choice data_alternatives at_end integer_in bits_in first_bits part_at next_at required_part required_by chosen_by elements_at members_by integer_at definite_at identifier_at second_at third_at length_at long_length_at
data_parts = refl

-- FALSE within so many arrays, of which the innermost may hold other octets
abbrev within : ℕ → List ℕ → List ℕ
within zero octets = octets
within (suc n) octets = 161 ∷ length (within n octets) ∷ within n octets

abbrev arrays : ℕ → Datum
arrays zero = datum.boolean false
arrays (suc n) = datum.array (part (arrays n) no_part)

-- Ten arrays may stand within each other. What opens an eleventh is too deep whatever stands in it or behind it, but not behind a
-- part that is malformed.
data_deep : Answers data_read (
    (within 10 (131 ∷ 1 ∷ 0 ∷ []), says (arrays 10)) ∷
    (within 11 (131 ∷ 1 ∷ 0 ∷ []), Err fault.too_deep) ∷
    (within 10 (161 ∷ 1 ∷ 255 ∷ []), Err fault.too_deep) ∷
    (within 10 (161 ∷ 2 ∷ 255 ∷ []), Err fault.malformed) ∷
    (within 9 (162 ∷ 4 ∷ 161 ∷ 0 ∷ 131 ∷ 0 ∷ []), Err fault.too_deep) ∷
    (within 9 (162 ∷ 4 ∷ 131 ∷ 0 ∷ 161 ∷ 0 ∷ []), Err fault.malformed) ∷
    [])
unfolding data_choice data_alternatives at_end integer_in bits_in first_bits part_at next_at required_part required_by chosen_by elements_at members_by integer_at definite_at identifier_at second_at third_at length_at long_length_at
data_deep = refl

-- ---- types

abbrev type_read : List ℕ → Result Value Fault
type_read octets = reading (lengths_of One) ((choice type_choice).form One) octets

abbrev is : Shape → Result Value Fault
is x = Ok ((choice type_choice).value x)

-- widths, lengths up to 60,000 either way, the two formats of floating point
types_simple : Answers type_read (
    (131 ∷ 0 ∷ [], is shape.boolean) ∷
    (131 ∷ 1 ∷ 0 ∷ [], Err fault.malformed) ∷
    (132 ∷ 1 ∷ 8 ∷ [], is (shape.bits (pos 8))) ∷
    (132 ∷ 1 ∷ 248 ∷ [], is (shape.bits (negsuc 7))) ∷
    (132 ∷ 3 ∷ 0 ∷ 234 ∷ 96 ∷ [], is (shape.bits (pos 60000))) ∷
    (132 ∷ 3 ∷ 0 ∷ 234 ∷ 97 ∷ [], Err fault.malformed) ∷
    (137 ∷ 3 ∷ 255 ∷ 21 ∷ 160 ∷ [], is (shape.octets (negsuc 59999))) ∷
    (138 ∷ 3 ∷ 255 ∷ 21 ∷ 159 ∷ [], Err fault.malformed) ∷
    (133 ∷ 1 ∷ 64 ∷ [], is (shape.integer 64)) ∷
    (133 ∷ 1 ∷ 24 ∷ [], Err fault.malformed) ∷
    (134 ∷ 1 ∷ 32 ∷ [], is (shape.unsigned 32)) ∷
    (134 ∷ 1 ∷ 64 ∷ [], Err fault.malformed) ∷
    (167 ∷ 6 ∷ 2 ∷ 1 ∷ 32 ∷ 2 ∷ 1 ∷ 8 ∷ [], is (shape.floating 32 8)) ∷
    (167 ∷ 6 ∷ 2 ∷ 1 ∷ 64 ∷ 2 ∷ 1 ∷ 11 ∷ [], is (shape.floating 64 11)) ∷
    (167 ∷ 6 ∷ 2 ∷ 1 ∷ 32 ∷ 2 ∷ 1 ∷ 11 ∷ [], Err fault.malformed) ∷
    (140 ∷ 1 ∷ 255 ∷ [], is (shape.time true)) ∷
    [])
unfolding type_choice type_alternatives at_end integer_in bits_in part_at next_at required_part required_by chosen_by elements_at members_by optional_part optional_by defaulting integer_at definite_at identifier_at second_at third_at length_at long_length_at
types_simple = refl

-- arrays of up to 4,096 elements, packed or not; structures, whose components may be named
types_parts : Answers type_read (
    (161 ∷ 7 ∷ 129 ∷ 1 ∷ 3 ∷ 162 ∷ 2 ∷ 131 ∷ 0 ∷ [], is (shape.array false 3 shape.boolean)) ∷
    (161 ∷ 10 ∷ 128 ∷ 1 ∷ 255 ∷ 129 ∷ 1 ∷ 0 ∷ 162 ∷ 2 ∷ 131 ∷ 0 ∷ [], is (shape.array true 0 shape.boolean)) ∷
    (161 ∷ 10 ∷ 128 ∷ 1 ∷ 0 ∷ 129 ∷ 1 ∷ 3 ∷ 162 ∷ 2 ∷ 131 ∷ 0 ∷ [], is (shape.array false 3 shape.boolean)) ∷
    (161 ∷ 8 ∷ 129 ∷ 2 ∷ 16 ∷ 0 ∷ 162 ∷ 2 ∷ 131 ∷ 0 ∷ [], is (shape.array false 4096 shape.boolean)) ∷
    (161 ∷ 8 ∷ 129 ∷ 2 ∷ 16 ∷ 1 ∷ 162 ∷ 2 ∷ 131 ∷ 0 ∷ [], Err fault.malformed) ∷
    (161 ∷ 3 ∷ 129 ∷ 1 ∷ 3 ∷ [], Err fault.malformed) ∷
    (161 ∷ 7 ∷ 162 ∷ 2 ∷ 131 ∷ 0 ∷ 129 ∷ 1 ∷ 3 ∷ [], Err fault.malformed) ∷
    (162 ∷ 2 ∷ 161 ∷ 0 ∷ [], is (shape.structure false no_field)) ∷
    (162 ∷ 11 ∷ 161 ∷ 9 ∷ 48 ∷ 7 ∷ 128 ∷ 1 ∷ 97 ∷ 161 ∷ 2 ∷ 131 ∷ 0 ∷ [], is (shape.structure false (field (Some (97 ∷ [])) shape.boolean no_field))) ∷
    (162 ∷ 8 ∷ 161 ∷ 6 ∷ 48 ∷ 4 ∷ 161 ∷ 2 ∷ 131 ∷ 0 ∷ [], is (shape.structure false (field None shape.boolean no_field))) ∷
    (162 ∷ 11 ∷ 161 ∷ 9 ∷ 48 ∷ 7 ∷ 128 ∷ 1 ∷ 45 ∷ 161 ∷ 2 ∷ 131 ∷ 0 ∷ [], Err fault.malformed) ∷
    [])
unfolding type_choice type_alternatives at_end integer_in bits_in part_at next_at required_part required_by chosen_by elements_at members_by optional_part optional_by defaulting integer_at definite_at identifier_at second_at third_at length_at long_length_at
types_parts = refl

-- ---- what is written: a default is left out

written : Answers (λ (s : Shape). spelling ((choice type_choice).form One) ((choice type_choice).value s)) (
    (shape.array false 3 shape.boolean, 161 ∷ 7 ∷ 129 ∷ 1 ∷ 3 ∷ 162 ∷ 2 ∷ 131 ∷ 0 ∷ []) ∷
    (shape.array true 3 shape.boolean, 161 ∷ 10 ∷ 128 ∷ 1 ∷ 255 ∷ 129 ∷ 1 ∷ 3 ∷ 162 ∷ 2 ∷ 131 ∷ 0 ∷ []) ∷
    (shape.structure false (field (Some (97 ∷ [])) (shape.integer 8) no_field), 162 ∷ 12 ∷ 161 ∷ 10 ∷ 48 ∷ 8 ∷ 128 ∷ 1 ∷ 97 ∷ 161 ∷ 3 ∷ 133 ∷ 1 ∷ 8 ∷ []) ∷
    (shape.floating 32 8, 167 ∷ 6 ∷ 2 ∷ 1 ∷ 32 ∷ 2 ∷ 1 ∷ 8 ∷ []) ∷
    [])
unfolding type_choice type_alternatives element_octets identifier_octets length_octets digits
written = refl
