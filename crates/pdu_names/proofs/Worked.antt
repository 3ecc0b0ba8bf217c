-- Worked examples of names of objects, which no service has yet: contents typed from ISO 9506-2 and ITU-T X.690.
use Rattle.std.specs.Prelude.{◌≡◌, ℕ, List, [], ◌∷◌, map, Result, Ok, Err}
use Rattle.std.proofs.Common.{refl}
use Rattle.ber_core.specs.Reading.{definite_at, identifier_at, second_at, third_at, length_at, long_length_at}
use Rattle.ber_core.specs.Spelling.{digits, identifier_octets, length_octets, element_octets}
use Rattle.ber_forms.specs.Value.{Value}
use Rattle.ber_forms.specs.Fault.{Fault}
use Rattle.ber_forms.specs.Fault as fault
use Rattle.ber_forms.specs.Reading.{reading, at_end, part_at, next_at, required_part, required_by, chosen_by, elements_at, members_by}
use Rattle.ber_forms.specs.Spelling.{spelling}
use Rattle.mms_types.specs.declared.identifier.Edition.TheVariants.{One}
use Rattle.mms_types.specs.declared.object_name.ObjectName.{ObjectName}
use Rattle.mms_types.specs.declared.object_name.ObjectName.TheVariants.{Vmd, Domain, Association}
use Rattle.pdu_names.specs.Editions.{lengths_of}
use Rattle.pdu_names.specs.Kinds.{choice}
use Rattle.pdu_names.specs.Names.{names}

-- a function answers each row of a table with its second column
abbrev Answers : {A B : Type 0} → (A → B) → List (A × B) → Type 0
Answers f table = map (λ row. f row.0) table ≡ map (λ row. row.1) table

abbrev read : List ℕ → Result Value Fault
read octets = reading (lengths_of One) ((choice names).form One) octets

-- what contents are read as the name
abbrev name : ObjectName → Result Value Fault
name x = Ok ((choice names).value x)

-- vmd-specific T, T1 of the domain D, aa-specific Speed; then contents that hold no name: no element, an empty name, one with
-- a hyphen, a wrong constructed bit, no alternative, something behind the name, a domain without an item, an item of another tag
names_read : Answers read (
    (128 ∷ 1 ∷ 84 ∷ [], name (Vmd (84 ∷ []))) ∷
    (161 ∷ 7 ∷ 26 ∷ 1 ∷ 68 ∷ 26 ∷ 2 ∷ 84 ∷ 49 ∷ [], name (Domain (68 ∷ []) (84 ∷ 49 ∷ []))) ∷
    (130 ∷ 5 ∷ 83 ∷ 112 ∷ 101 ∷ 101 ∷ 100 ∷ [], name (Association (83 ∷ 112 ∷ 101 ∷ 101 ∷ 100 ∷ []))) ∷
    ([], Err fault.malformed) ∷
    (128 ∷ 0 ∷ [], Err fault.malformed) ∷
    (128 ∷ 2 ∷ 97 ∷ 45 ∷ [], Err fault.malformed) ∷
    (160 ∷ 1 ∷ 84 ∷ [], Err fault.malformed) ∷
    (131 ∷ 1 ∷ 84 ∷ [], Err fault.malformed) ∷
    (128 ∷ 1 ∷ 84 ∷ 0 ∷ [], Err fault.malformed) ∷
    (161 ∷ 3 ∷ 26 ∷ 1 ∷ 68 ∷ [], Err fault.malformed) ∷
    (161 ∷ 6 ∷ 128 ∷ 1 ∷ 68 ∷ 26 ∷ 1 ∷ 84 ∷ [], Err fault.malformed) ∷
    [])
unfolding names at_end part_at next_at required_part required_by chosen_by elements_at members_by definite_at identifier_at second_at third_at length_at long_length_at
names_read = refl

names_spelled : Answers (λ x. spelling ((choice names).form One) ((choice names).value x)) (
    (Vmd (84 ∷ []), 128 ∷ 1 ∷ 84 ∷ []) ∷
    (Domain (68 ∷ []) (84 ∷ 49 ∷ []), 161 ∷ 7 ∷ 26 ∷ 1 ∷ 68 ∷ 26 ∷ 2 ∷ 84 ∷ 49 ∷ []) ∷
    (Association (83 ∷ 112 ∷ 101 ∷ 101 ∷ 100 ∷ []), 130 ∷ 5 ∷ 83 ∷ 112 ∷ 101 ∷ 101 ∷ 100 ∷ []) ∷
    [])
unfolding names element_octets identifier_octets length_octets digits
names_spelled = refl
