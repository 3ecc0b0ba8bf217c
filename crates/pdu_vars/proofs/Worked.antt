-- Worked examples of the forms of the variable services: contents typed from ISO 9506-2 and ITU-T X.690.
use Rattle.std.specs.Prelude.{◌≡◌, ℕ, zero, suc, ◌*◌, ◌/◌, ◌%◌, pos, true, false, List, [], ◌∷◌, ◌++◌, length, map, Option, Some, None, Result, Ok, Err}
use Rattle.std.proofs.Common.{refl}
use Rattle.ber_core.specs.Leaf.{integer_at}
use Rattle.ber_core.specs.Reading.{definite_at, identifier_at, second_at, third_at, length_at, long_length_at}
use Rattle.ber_core.specs.Spelling.{digits, identifier_octets, length_octets, element_octets}
use Rattle.ber_forms.specs.Fault.{Fault}
use Rattle.ber_forms.specs.Fault as fault
use Rattle.ber_forms.specs.Value.{Value, Slots, parts, given, done, slot}
use Rattle.ber_forms.specs.Reading.{reading, at_end, integer_in, defaulting, members_by, part_at, next_at, required_part, optional_part, required_by, chosen_by, optional_by, elements_at}
use Rattle.ber_forms.specs.Spelling.{spelling}
use Rattle.mms_types.specs.declared.identifier.Edition.TheVariants.{One}
use Rattle.mms_types.specs.declared.object_name.ObjectName.TheVariants.{Vmd, Domain, Association}
use Rattle.mms_types.specs.declared.variable.Spec.TheVariants.{Name, Address}
use Rattle.mms_types.specs.declared.variable.Access.TheVariants.{Specs}
use Rattle.mms_types.specs.declared.variable.Access.TheVariants as access
use Rattle.mms_types.specs.declared.variable.DeleteScope.TheVariants.{Specific}
use Rattle.mms_types.specs.declared.variable.DeleteScope.TheVariants as scope
use Rattle.mms_types.specs.declared.access_result.DataAccessError.TheVariants.{ObjectInvalidated, ObjectAccessDenied, TypeInconsistent, ObjectNonExistent, ObjectValueInvalid}
use Rattle.mms_types.specs.declared.access_result.AccessResult.TheVariants as result
use Rattle.mms_types.specs.declared.access_result.WriteResult.TheVariants.{Failure, Success}
use Rattle.mms_types.specs.Datum as datum
use Rattle.mms_types.specs.Shape as shape
use Rattle.pdu_names.specs.Editions.{lengths_of}
use Rattle.pdu_names.specs.Names.{names}
use Rattle.pdu_names.specs.Kinds.{Kind, choice}
use Rattle.pdu_data.specs.Data.{data_alternatives, data_choice}
use Rattle.pdu_data.specs.Types.{type_alternatives, type_choice}
use Rattle.pdu_vars.specs.Variables.{specifications, accesses}
use Rattle.pdu_vars.specs.Results.{access_results, write_answer}
use Rattle.pdu_vars.specs.ReadWrite.{read_request, read_answer, write_request}
use Rattle.pdu_vars.specs.Named.{define_variable, variable_attributes, delete_names, deleted_names}
use Rattle.pdu_vars.specs.Lists.{define_list, list_attributes}

-- a function answers each row of a table with its second column
abbrev Answers : {A B : Type 0} → (A → B) → List (A × B) → Type 0
Answers f table = map (λ row. f row.0) table ≡ map (λ row. row.1) table

abbrev read : {X : Type 0} → Kind X → List ℕ → Result Value Fault
read k octets = reading (lengths_of One) (k.form One) octets

-- what contents are read as this
abbrev says : {X : Type 0} → Kind X → X → Result Value Fault
says k x = Ok (k.value x)

abbrev written : {X : Type 0} → Kind X → X → List ℕ
written k x = spelling (k.form One) (k.value x)

abbrev slots_count : Slots → ℕ
slots_count done = 0
slots_count (slot s vs) = suc (slots_count vs)

-- Read-Request: by name, by address, by a list; what is no variable, a list without members, no alternative, two
reads : Answers (read read_request) (
    (161 ∷ 13 ∷ 160 ∷ 11 ∷ 48 ∷ 9 ∷ 160 ∷ 7 ∷ 128 ∷ 5 ∷ 83 ∷ 112 ∷ 101 ∷ 101 ∷ 100 ∷ [], says read_request (record { with_access = false; access = Specs (Name (Vmd (83 ∷ 112 ∷ 101 ∷ 101 ∷ 100 ∷ [])) ∷ []) })) ∷
    (161 ∷ 5 ∷ 161 ∷ 3 ∷ 128 ∷ 1 ∷ 76 ∷ [], says read_request (record { with_access = false; access = access.List (Vmd (76 ∷ [])) })) ∷
    (128 ∷ 1 ∷ 255 ∷ 161 ∷ 5 ∷ 161 ∷ 3 ∷ 128 ∷ 1 ∷ 76 ∷ [], says read_request (record { with_access = true; access = access.List (Vmd (76 ∷ [])) })) ∷
    (128 ∷ 1 ∷ 0 ∷ 161 ∷ 5 ∷ 161 ∷ 3 ∷ 128 ∷ 1 ∷ 76 ∷ [], says read_request (record { with_access = false; access = access.List (Vmd (76 ∷ [])) })) ∷
    (161 ∷ 9 ∷ 160 ∷ 7 ∷ 48 ∷ 5 ∷ 161 ∷ 3 ∷ 128 ∷ 1 ∷ 5 ∷ [], says read_request (record { with_access = false; access = Specs (Address 5 ∷ []) })) ∷
    (161 ∷ 21 ∷ 160 ∷ 19 ∷ 48 ∷ 5 ∷ 161 ∷ 3 ∷ 128 ∷ 1 ∷ 5 ∷ 48 ∷ 10 ∷ 160 ∷ 8 ∷ 161 ∷ 6 ∷ 26 ∷ 1 ∷ 68 ∷ 26 ∷ 1 ∷ 84 ∷ [], says read_request (record { with_access = false; access = Specs (Address 5 ∷ Name (Domain (68 ∷ []) (84 ∷ [])) ∷ []) })) ∷
    (161 ∷ 13 ∷ 160 ∷ 11 ∷ 48 ∷ 9 ∷ 161 ∷ 7 ∷ 128 ∷ 5 ∷ 0 ∷ 255 ∷ 255 ∷ 255 ∷ 255 ∷ [], says read_request (record { with_access = false; access = Specs (Address 4294967295 ∷ []) })) ∷
    (161 ∷ 13 ∷ 160 ∷ 11 ∷ 48 ∷ 9 ∷ 161 ∷ 7 ∷ 128 ∷ 5 ∷ 1 ∷ 0 ∷ 0 ∷ 0 ∷ 0 ∷ [], Err fault.malformed) ∷
    (161 ∷ 9 ∷ 160 ∷ 7 ∷ 48 ∷ 5 ∷ 161 ∷ 3 ∷ 129 ∷ 1 ∷ 5 ∷ [], Err fault.malformed) ∷
    (161 ∷ 7 ∷ 160 ∷ 5 ∷ 48 ∷ 3 ∷ 129 ∷ 1 ∷ 5 ∷ [], Err fault.malformed) ∷
    (161 ∷ 14 ∷ 160 ∷ 12 ∷ 48 ∷ 10 ∷ 161 ∷ 3 ∷ 128 ∷ 1 ∷ 5 ∷ 161 ∷ 3 ∷ 128 ∷ 1 ∷ 5 ∷ [], Err fault.malformed) ∷
    (161 ∷ 4 ∷ 160 ∷ 2 ∷ 48 ∷ 0 ∷ [], Err fault.malformed) ∷
    (161 ∷ 9 ∷ 160 ∷ 7 ∷ 16 ∷ 5 ∷ 161 ∷ 3 ∷ 128 ∷ 1 ∷ 5 ∷ [], Err fault.malformed) ∷
    (161 ∷ 2 ∷ 160 ∷ 0 ∷ [], Err fault.malformed) ∷
    (161 ∷ 5 ∷ 162 ∷ 3 ∷ 128 ∷ 1 ∷ 76 ∷ [], Err fault.malformed) ∷
    (161 ∷ 10 ∷ 161 ∷ 3 ∷ 128 ∷ 1 ∷ 76 ∷ 161 ∷ 3 ∷ 128 ∷ 1 ∷ 76 ∷ [], Err fault.malformed) ∷
    (161 ∷ 0 ∷ [], Err fault.malformed) ∷
    [])
unfolding names specifications accesses access_results data_choice data_alternatives type_choice type_alternatives at_end integer_in part_at next_at required_part required_by chosen_by members_by elements_at optional_part optional_by defaulting integer_at definite_at identifier_at second_at third_at length_at long_length_at
reads = refl

-- a part that is missing, the wrong order, one that stands twice, wrong lengths, wrong constructed bits, an octet behind
read_parts : Answers (read read_request) (
    ([], Err fault.malformed) ∷
    (128 ∷ 1 ∷ 255 ∷ [], Err fault.malformed) ∷
    (161 ∷ 5 ∷ 161 ∷ 3 ∷ 128 ∷ 1 ∷ 76 ∷ 128 ∷ 1 ∷ 0 ∷ [], Err fault.malformed) ∷
    (161 ∷ 5 ∷ 161 ∷ 3 ∷ 128 ∷ 1 ∷ 76 ∷ 161 ∷ 5 ∷ 161 ∷ 3 ∷ 128 ∷ 1 ∷ 76 ∷ [], Err fault.malformed) ∷
    (128 ∷ 1 ∷ 0 ∷ 128 ∷ 1 ∷ 255 ∷ 161 ∷ 5 ∷ 161 ∷ 3 ∷ 128 ∷ 1 ∷ 76 ∷ [], Err fault.malformed) ∷
    (128 ∷ 0 ∷ 161 ∷ 5 ∷ 161 ∷ 3 ∷ 128 ∷ 1 ∷ 76 ∷ [], Err fault.malformed) ∷
    (128 ∷ 2 ∷ 0 ∷ 0 ∷ 161 ∷ 5 ∷ 161 ∷ 3 ∷ 128 ∷ 1 ∷ 76 ∷ [], Err fault.malformed) ∷
    (160 ∷ 3 ∷ 128 ∷ 1 ∷ 0 ∷ 161 ∷ 5 ∷ 161 ∷ 3 ∷ 128 ∷ 1 ∷ 76 ∷ [], Err fault.malformed) ∷
    (129 ∷ 5 ∷ 161 ∷ 3 ∷ 128 ∷ 1 ∷ 76 ∷ [], Err fault.malformed) ∷
    (161 ∷ 5 ∷ 161 ∷ 3 ∷ 128 ∷ 1 ∷ 76 ∷ 0 ∷ [], Err fault.malformed) ∷
    [])
unfolding names specifications accesses access_results data_choice data_alternatives type_choice type_alternatives at_end integer_in part_at next_at required_part required_by chosen_by members_by elements_at optional_part optional_by defaulting integer_at definite_at identifier_at second_at third_at length_at long_length_at
read_parts = refl

-- Read-Response: data, why there is none, from 0 to 11, and both; the variables again; none at all; what is neither
answers : Answers (read read_answer) (
    (161 ∷ 3 ∷ 133 ∷ 1 ∷ 7 ∷ [], says read_answer (record { access = None; results = result.Success (datum.integer (pos 7)) ∷ [] })) ∷
    (161 ∷ 6 ∷ 133 ∷ 1 ∷ 7 ∷ 133 ∷ 1 ∷ 7 ∷ [], says read_answer (record { access = None; results = result.Success (datum.integer (pos 7)) ∷ result.Success (datum.integer (pos 7)) ∷ [] })) ∷
    (161 ∷ 6 ∷ 128 ∷ 1 ∷ 10 ∷ 133 ∷ 1 ∷ 7 ∷ [], says read_answer (record { access = None; results = result.Failure ObjectNonExistent ∷ result.Success (datum.integer (pos 7)) ∷ [] })) ∷
    (161 ∷ 6 ∷ 128 ∷ 1 ∷ 0 ∷ 128 ∷ 1 ∷ 11 ∷ [], says read_answer (record { access = None; results = result.Failure ObjectInvalidated ∷ result.Failure ObjectValueInvalid ∷ [] })) ∷
    (160 ∷ 5 ∷ 161 ∷ 3 ∷ 128 ∷ 1 ∷ 76 ∷ 161 ∷ 3 ∷ 131 ∷ 1 ∷ 255 ∷ [], says read_answer (record { access = Some (access.List (Vmd (76 ∷ []))); results = result.Success (datum.boolean true) ∷ [] })) ∷
    (161 ∷ 0 ∷ [], says read_answer (record { access = None; results = [] })) ∷
    (161 ∷ 3 ∷ 128 ∷ 1 ∷ 12 ∷ [], Err fault.malformed) ∷
    (161 ∷ 2 ∷ 128 ∷ 0 ∷ [], Err fault.malformed) ∷
    (161 ∷ 5 ∷ 160 ∷ 3 ∷ 128 ∷ 1 ∷ 0 ∷ [], Err fault.malformed) ∷
    (161 ∷ 3 ∷ 136 ∷ 1 ∷ 0 ∷ [], Err fault.malformed) ∷
    (161 ∷ 3 ∷ 141 ∷ 1 ∷ 0 ∷ [], Err fault.malformed) ∷
    ([], Err fault.malformed) ∷
    (160 ∷ 5 ∷ 161 ∷ 3 ∷ 128 ∷ 1 ∷ 76 ∷ [], Err fault.malformed) ∷
    (161 ∷ 3 ∷ 133 ∷ 1 ∷ 7 ∷ 160 ∷ 5 ∷ 161 ∷ 3 ∷ 128 ∷ 1 ∷ 76 ∷ [], Err fault.malformed) ∷
    (161 ∷ 3 ∷ 133 ∷ 1 ∷ 7 ∷ 161 ∷ 3 ∷ 133 ∷ 1 ∷ 7 ∷ [], Err fault.malformed) ∷
    (129 ∷ 3 ∷ 133 ∷ 1 ∷ 7 ∷ [], Err fault.malformed) ∷
    [])
unfolding names specifications accesses access_results data_choice data_alternatives type_choice type_alternatives at_end integer_in part_at next_at required_part required_by chosen_by members_by elements_at optional_part optional_by defaulting integer_at definite_at identifier_at second_at third_at length_at long_length_at
answers = refl

-- Write-Request: its variables have no tag of their own, and may be a list
writes : Answers (read write_request) (
    (160 ∷ 11 ∷ 48 ∷ 9 ∷ 160 ∷ 7 ∷ 128 ∷ 5 ∷ 83 ∷ 112 ∷ 101 ∷ 101 ∷ 100 ∷ 160 ∷ 3 ∷ 133 ∷ 1 ∷ 7 ∷ [], says write_request (record { access = Specs (Name (Vmd (83 ∷ 112 ∷ 101 ∷ 101 ∷ 100 ∷ [])) ∷ []); values = datum.integer (pos 7) ∷ [] })) ∷
    (161 ∷ 3 ∷ 128 ∷ 1 ∷ 76 ∷ 160 ∷ 6 ∷ 133 ∷ 1 ∷ 7 ∷ 131 ∷ 1 ∷ 0 ∷ [], says write_request (record { access = access.List (Vmd (76 ∷ [])); values = datum.integer (pos 7) ∷ datum.boolean false ∷ [] })) ∷
    (161 ∷ 3 ∷ 128 ∷ 1 ∷ 76 ∷ 160 ∷ 0 ∷ [], says write_request (record { access = access.List (Vmd (76 ∷ [])); values = [] })) ∷
    (161 ∷ 3 ∷ 128 ∷ 1 ∷ 76 ∷ [], Err fault.malformed) ∷
    (160 ∷ 3 ∷ 133 ∷ 1 ∷ 7 ∷ [], Err fault.malformed) ∷
    (160 ∷ 3 ∷ 133 ∷ 1 ∷ 7 ∷ 160 ∷ 11 ∷ 48 ∷ 9 ∷ 160 ∷ 7 ∷ 128 ∷ 5 ∷ 83 ∷ 112 ∷ 101 ∷ 101 ∷ 100 ∷ [], Err fault.malformed) ∷
    (160 ∷ 11 ∷ 48 ∷ 9 ∷ 160 ∷ 7 ∷ 128 ∷ 5 ∷ 83 ∷ 112 ∷ 101 ∷ 101 ∷ 100 ∷ 160 ∷ 3 ∷ 133 ∷ 1 ∷ 7 ∷ 160 ∷ 3 ∷ 133 ∷ 1 ∷ 7 ∷ [], Err fault.malformed) ∷
    (160 ∷ 11 ∷ 48 ∷ 9 ∷ 160 ∷ 7 ∷ 128 ∷ 5 ∷ 83 ∷ 112 ∷ 101 ∷ 101 ∷ 100 ∷ 160 ∷ 11 ∷ 48 ∷ 9 ∷ 160 ∷ 7 ∷ 128 ∷ 5 ∷ 83 ∷ 112 ∷ 101 ∷ 101 ∷ 100 ∷ 160 ∷ 3 ∷ 133 ∷ 1 ∷ 7 ∷ [], Err fault.malformed) ∷
    (161 ∷ 13 ∷ 160 ∷ 11 ∷ 48 ∷ 9 ∷ 160 ∷ 7 ∷ 128 ∷ 5 ∷ 83 ∷ 112 ∷ 101 ∷ 101 ∷ 100 ∷ 160 ∷ 3 ∷ 133 ∷ 1 ∷ 7 ∷ [], Err fault.malformed) ∷
    (160 ∷ 11 ∷ 48 ∷ 9 ∷ 160 ∷ 7 ∷ 128 ∷ 5 ∷ 83 ∷ 112 ∷ 101 ∷ 101 ∷ 100 ∷ 128 ∷ 3 ∷ 133 ∷ 1 ∷ 7 ∷ [], Err fault.malformed) ∷
    (160 ∷ 0 ∷ 160 ∷ 3 ∷ 133 ∷ 1 ∷ 7 ∷ [], Err fault.malformed) ∷
    (160 ∷ 11 ∷ 48 ∷ 9 ∷ 160 ∷ 7 ∷ 128 ∷ 5 ∷ 83 ∷ 112 ∷ 101 ∷ 101 ∷ 100 ∷ 160 ∷ 3 ∷ 128 ∷ 1 ∷ 7 ∷ [], Err fault.malformed) ∷
    ([], Err fault.malformed) ∷
    [])
unfolding names specifications accesses access_results data_choice data_alternatives type_choice type_alternatives at_end integer_in part_at next_at required_part required_by chosen_by members_by elements_at optional_part optional_by defaulting integer_at definite_at identifier_at second_at third_at length_at long_length_at
writes = refl

-- so many arrays within each other, of which the innermost has these octets
abbrev within : ℕ → List ℕ → List ℕ
within zero octets = octets
within (suc n) octets = 161 ∷ length (within n octets) ∷ within n octets

abbrev under : ℕ → List ℕ → List ℕ
under tag octets = tag ∷ length octets ∷ octets

abbrev to_list : List ℕ
to_list = 161 ∷ 3 ∷ 128 ∷ 1 ∷ 76 ∷ []

-- the second value of a write nests eleven deep: too deep where all before it is of its form, whatever stands behind
deep_writes : Answers (read write_request) (
    (to_list ++ under 160 (133 ∷ 1 ∷ 7 ∷ [] ++ within 11 (131 ∷ 1 ∷ 0 ∷ [])), Err fault.too_deep) ∷
    (to_list ++ under 160 (within 11 (131 ∷ 1 ∷ 0 ∷ [])) ++ 255 ∷ [], Err fault.too_deep) ∷
    (to_list ++ under 160 (133 ∷ 0 ∷ [] ++ within 11 (131 ∷ 1 ∷ 0 ∷ [])), Err fault.malformed) ∷
    (160 ∷ 0 ∷ [] ++ under 160 (within 11 (131 ∷ 1 ∷ 0 ∷ [])), Err fault.malformed) ∷
    [])
unfolding names specifications accesses access_results data_choice data_alternatives type_choice type_alternatives at_end integer_in part_at next_at required_part required_by chosen_by members_by elements_at optional_part optional_by defaulting integer_at definite_at identifier_at second_at third_at length_at long_length_at
deep_writes = refl

-- Write-Response: why not, or success
write_answers : Answers (read write_answer) (
    (128 ∷ 1 ∷ 3 ∷ [], says write_answer (Failure ObjectAccessDenied ∷ [])) ∷
    (129 ∷ 0 ∷ [], says write_answer (Success ∷ [])) ∷
    (128 ∷ 1 ∷ 10 ∷ 128 ∷ 1 ∷ 7 ∷ 129 ∷ 0 ∷ [], says write_answer (Failure ObjectNonExistent ∷ Failure TypeInconsistent ∷ Success ∷ [])) ∷
    ([], says write_answer ([])) ∷
    (128 ∷ 1 ∷ 12 ∷ [], Err fault.malformed) ∷
    (129 ∷ 1 ∷ 0 ∷ [], Err fault.malformed) ∷
    (161 ∷ 0 ∷ [], Err fault.malformed) ∷
    (130 ∷ 0 ∷ [], Err fault.malformed) ∷
    [])
unfolding names specifications accesses access_results data_choice data_alternatives type_choice type_alternatives at_end integer_in part_at next_at required_part required_by chosen_by members_by elements_at optional_part optional_by defaulting integer_at definite_at identifier_at second_at third_at length_at long_length_at
write_answers = refl

-- GetVariableAccessAttributes-Response, with the address or without
attributes : Answers (read variable_attributes) (
    (128 ∷ 1 ∷ 255 ∷ 161 ∷ 3 ∷ 128 ∷ 1 ∷ 5 ∷ 162 ∷ 3 ∷ 133 ∷ 1 ∷ 32 ∷ [], says variable_attributes (record { deletable = true; address = Some 5; of = shape.integer 32 })) ∷
    (128 ∷ 1 ∷ 0 ∷ 162 ∷ 2 ∷ 131 ∷ 0 ∷ [], says variable_attributes (record { deletable = false; address = None; of = shape.boolean })) ∷
    (128 ∷ 1 ∷ 255 ∷ 161 ∷ 3 ∷ 128 ∷ 1 ∷ 5 ∷ [], Err fault.malformed) ∷
    (161 ∷ 3 ∷ 128 ∷ 1 ∷ 5 ∷ 162 ∷ 3 ∷ 133 ∷ 1 ∷ 32 ∷ [], Err fault.malformed) ∷
    (128 ∷ 1 ∷ 255 ∷ 162 ∷ 3 ∷ 133 ∷ 1 ∷ 32 ∷ 161 ∷ 3 ∷ 128 ∷ 1 ∷ 5 ∷ [], Err fault.malformed) ∷
    (128 ∷ 1 ∷ 255 ∷ 161 ∷ 3 ∷ 128 ∷ 1 ∷ 5 ∷ 161 ∷ 3 ∷ 128 ∷ 1 ∷ 5 ∷ 162 ∷ 3 ∷ 133 ∷ 1 ∷ 32 ∷ [], Err fault.malformed) ∷
    (128 ∷ 1 ∷ 255 ∷ 129 ∷ 1 ∷ 5 ∷ 162 ∷ 3 ∷ 133 ∷ 1 ∷ 32 ∷ [], Err fault.malformed) ∷
    (128 ∷ 1 ∷ 255 ∷ 133 ∷ 1 ∷ 32 ∷ [], Err fault.malformed) ∷
    (128 ∷ 1 ∷ 255 ∷ 162 ∷ 3 ∷ 133 ∷ 1 ∷ 24 ∷ [], Err fault.malformed) ∷
    (128 ∷ 1 ∷ 255 ∷ 162 ∷ 6 ∷ 133 ∷ 1 ∷ 32 ∷ 133 ∷ 1 ∷ 32 ∷ [], Err fault.malformed) ∷
    [])
unfolding names specifications accesses access_results data_choice data_alternatives type_choice type_alternatives at_end integer_in part_at next_at required_part required_by chosen_by members_by elements_at optional_part optional_by defaulting integer_at definite_at identifier_at second_at third_at length_at long_length_at
attributes = refl

-- GetVariableAccessAttributes-Request: a name or an address
asked : Answers (read (choice specifications)) (
    (160 ∷ 3 ∷ 128 ∷ 1 ∷ 65 ∷ [], says (choice specifications) (Name (Vmd (65 ∷ [])))) ∷
    (161 ∷ 3 ∷ 128 ∷ 1 ∷ 5 ∷ [], says (choice specifications) (Address 5)) ∷
    (128 ∷ 1 ∷ 65 ∷ [], Err fault.malformed) ∷
    ([], Err fault.malformed) ∷
    (161 ∷ 3 ∷ 128 ∷ 1 ∷ 5 ∷ 161 ∷ 3 ∷ 128 ∷ 1 ∷ 5 ∷ [], Err fault.malformed) ∷
    (162 ∷ 3 ∷ 128 ∷ 1 ∷ 5 ∷ [], Err fault.malformed) ∷
    [])
unfolding names specifications accesses access_results data_choice data_alternatives type_choice type_alternatives at_end integer_in part_at next_at required_part required_by chosen_by members_by elements_at optional_part optional_by defaulting integer_at definite_at identifier_at second_at third_at length_at long_length_at
asked = refl

-- DefineNamedVariable-Request, with a type or without
definitions : Answers (read define_variable) (
    (160 ∷ 3 ∷ 128 ∷ 1 ∷ 65 ∷ 161 ∷ 3 ∷ 128 ∷ 1 ∷ 0 ∷ [], says define_variable (record { name = Vmd (65 ∷ []); address = 0; of = None })) ∷
    (160 ∷ 3 ∷ 130 ∷ 1 ∷ 65 ∷ 161 ∷ 4 ∷ 128 ∷ 2 ∷ 15 ∷ 255 ∷ 162 ∷ 2 ∷ 131 ∷ 0 ∷ [], says define_variable (record { name = Association (65 ∷ []); address = 4095; of = Some shape.boolean })) ∷
    (160 ∷ 3 ∷ 128 ∷ 1 ∷ 65 ∷ [], Err fault.malformed) ∷
    (161 ∷ 3 ∷ 128 ∷ 1 ∷ 0 ∷ [], Err fault.malformed) ∷
    (161 ∷ 3 ∷ 128 ∷ 1 ∷ 0 ∷ 160 ∷ 3 ∷ 128 ∷ 1 ∷ 65 ∷ [], Err fault.malformed) ∷
    (160 ∷ 3 ∷ 128 ∷ 1 ∷ 65 ∷ 162 ∷ 2 ∷ 131 ∷ 0 ∷ 161 ∷ 3 ∷ 128 ∷ 1 ∷ 0 ∷ [], Err fault.malformed) ∷
    (160 ∷ 3 ∷ 128 ∷ 1 ∷ 65 ∷ 161 ∷ 3 ∷ 128 ∷ 1 ∷ 0 ∷ 162 ∷ 2 ∷ 131 ∷ 0 ∷ 162 ∷ 2 ∷ 131 ∷ 0 ∷ [], Err fault.malformed) ∷
    (160 ∷ 3 ∷ 128 ∷ 1 ∷ 65 ∷ 161 ∷ 3 ∷ 128 ∷ 1 ∷ 0 ∷ 162 ∷ 0 ∷ [], Err fault.malformed) ∷
    (160 ∷ 3 ∷ 128 ∷ 1 ∷ 65 ∷ 161 ∷ 2 ∷ 128 ∷ 0 ∷ [], Err fault.malformed) ∷
    (128 ∷ 1 ∷ 65 ∷ 161 ∷ 3 ∷ 128 ∷ 1 ∷ 0 ∷ [], Err fault.malformed) ∷
    [])
unfolding names specifications accesses access_results data_choice data_alternatives type_choice type_alternatives at_end integer_in part_at next_at required_part required_by chosen_by members_by elements_at optional_part optional_by defaulting integer_at definite_at identifier_at second_at third_at length_at long_length_at
definitions = refl

-- DeleteVariableAccess-Request and DeleteNamedVariableList-Request: each scope, and what it needs
deletions : Answers (read delete_names) (
    (161 ∷ 3 ∷ 128 ∷ 1 ∷ 65 ∷ [], says delete_names (record { scope = Specific; names = Some (Vmd (65 ∷ []) ∷ []); domain = None })) ∷
    (128 ∷ 1 ∷ 0 ∷ 161 ∷ 6 ∷ 128 ∷ 1 ∷ 65 ∷ 128 ∷ 1 ∷ 66 ∷ [], says delete_names (record { scope = Specific; names = Some (Vmd (65 ∷ []) ∷ Vmd (66 ∷ []) ∷ []); domain = None })) ∷
    (161 ∷ 0 ∷ [], says delete_names (record { scope = Specific; names = Some []; domain = None })) ∷
    (128 ∷ 1 ∷ 1 ∷ [], says delete_names (record { scope = scope.Association; names = None; domain = None })) ∷
    (128 ∷ 1 ∷ 2 ∷ 130 ∷ 1 ∷ 68 ∷ [], says delete_names (record { scope = scope.Domain; names = None; domain = Some (68 ∷ []) })) ∷
    (128 ∷ 1 ∷ 3 ∷ [], says delete_names (record { scope = scope.Vmd; names = None; domain = None })) ∷
    ([], Err fault.malformed) ∷
    (128 ∷ 1 ∷ 0 ∷ [], Err fault.malformed) ∷
    (128 ∷ 1 ∷ 2 ∷ [], Err fault.malformed) ∷
    (128 ∷ 1 ∷ 4 ∷ [], Err fault.malformed) ∷
    (128 ∷ 0 ∷ [], Err fault.malformed) ∷
    (160 ∷ 3 ∷ 2 ∷ 1 ∷ 3 ∷ [], Err fault.malformed) ∷
    (130 ∷ 1 ∷ 68 ∷ 161 ∷ 3 ∷ 128 ∷ 1 ∷ 65 ∷ [], Err fault.malformed) ∷
    (161 ∷ 3 ∷ 128 ∷ 1 ∷ 65 ∷ 161 ∷ 3 ∷ 128 ∷ 1 ∷ 65 ∷ [], Err fault.malformed) ∷
    (129 ∷ 3 ∷ 128 ∷ 1 ∷ 65 ∷ [], Err fault.malformed) ∷
    (161 ∷ 3 ∷ 131 ∷ 1 ∷ 65 ∷ [], Err fault.malformed) ∷
    [])
unfolding names specifications accesses access_results data_choice data_alternatives type_choice type_alternatives at_end integer_in part_at next_at required_part required_by chosen_by members_by elements_at optional_part optional_by defaulting integer_at definite_at identifier_at second_at third_at length_at long_length_at
deletions = refl

-- their answers
deleted : Answers (read deleted_names) (
    (128 ∷ 1 ∷ 1 ∷ 129 ∷ 1 ∷ 1 ∷ [], says deleted_names (record { matched = 1; deleted = 1 })) ∷
    (128 ∷ 5 ∷ 0 ∷ 255 ∷ 255 ∷ 255 ∷ 255 ∷ 129 ∷ 1 ∷ 0 ∷ [], says deleted_names (record { matched = 4294967295; deleted = 0 })) ∷
    (128 ∷ 1 ∷ 1 ∷ [], Err fault.malformed) ∷
    (129 ∷ 1 ∷ 1 ∷ 128 ∷ 1 ∷ 1 ∷ [], Err fault.malformed) ∷
    (128 ∷ 1 ∷ 1 ∷ 129 ∷ 1 ∷ 1 ∷ 129 ∷ 1 ∷ 1 ∷ [], Err fault.malformed) ∷
    (128 ∷ 1 ∷ 255 ∷ 129 ∷ 1 ∷ 1 ∷ [], Err fault.malformed) ∷
    (160 ∷ 3 ∷ 2 ∷ 1 ∷ 1 ∷ 129 ∷ 1 ∷ 1 ∷ [], Err fault.malformed) ∷
    [])
unfolding names specifications accesses access_results data_choice data_alternatives type_choice type_alternatives at_end integer_in part_at next_at required_part required_by chosen_by members_by elements_at optional_part optional_by defaulting integer_at definite_at identifier_at second_at third_at length_at long_length_at
deleted = refl

-- DefineNamedVariableList-Request: its name has no tag of its own
list_definitions : Answers (read define_list) (
    (128 ∷ 1 ∷ 76 ∷ 160 ∷ 7 ∷ 48 ∷ 5 ∷ 161 ∷ 3 ∷ 128 ∷ 1 ∷ 5 ∷ [], says define_list (record { name = Vmd (76 ∷ []); variables = Address 5 ∷ [] })) ∷
    (128 ∷ 1 ∷ 76 ∷ 160 ∷ 14 ∷ 48 ∷ 5 ∷ 161 ∷ 3 ∷ 128 ∷ 1 ∷ 5 ∷ 48 ∷ 5 ∷ 160 ∷ 3 ∷ 128 ∷ 1 ∷ 65 ∷ [], says define_list (record { name = Vmd (76 ∷ []); variables = Address 5 ∷ Name (Vmd (65 ∷ [])) ∷ [] })) ∷
    (128 ∷ 1 ∷ 76 ∷ 160 ∷ 0 ∷ [], Err fault.malformed) ∷
    (128 ∷ 1 ∷ 76 ∷ [], Err fault.malformed) ∷
    (160 ∷ 7 ∷ 48 ∷ 5 ∷ 161 ∷ 3 ∷ 128 ∷ 1 ∷ 5 ∷ [], Err fault.malformed) ∷
    (160 ∷ 7 ∷ 48 ∷ 5 ∷ 161 ∷ 3 ∷ 128 ∷ 1 ∷ 5 ∷ 128 ∷ 1 ∷ 76 ∷ [], Err fault.malformed) ∷
    (128 ∷ 1 ∷ 76 ∷ 160 ∷ 7 ∷ 48 ∷ 5 ∷ 161 ∷ 3 ∷ 128 ∷ 1 ∷ 5 ∷ 160 ∷ 7 ∷ 48 ∷ 5 ∷ 161 ∷ 3 ∷ 128 ∷ 1 ∷ 5 ∷ [], Err fault.malformed) ∷
    (160 ∷ 3 ∷ 128 ∷ 1 ∷ 76 ∷ 160 ∷ 7 ∷ 48 ∷ 5 ∷ 161 ∷ 3 ∷ 128 ∷ 1 ∷ 5 ∷ [], Err fault.malformed) ∷
    (128 ∷ 1 ∷ 76 ∷ 128 ∷ 7 ∷ 48 ∷ 5 ∷ 161 ∷ 3 ∷ 128 ∷ 1 ∷ 5 ∷ [], Err fault.malformed) ∷
    [])
unfolding names specifications accesses access_results data_choice data_alternatives type_choice type_alternatives at_end integer_in part_at next_at required_part required_by chosen_by members_by elements_at optional_part optional_by defaulting integer_at definite_at identifier_at second_at third_at length_at long_length_at
list_definitions = refl

-- so many variables
abbrev variables_of : ℕ → List ℕ
variables_of zero = []
variables_of (suc n) = 48 ∷ 5 ∷ 161 ∷ 3 ∷ 128 ∷ 1 ∷ 5 ∷ [] ++ variables_of n

abbrev count_of : Result Value Fault → Option ℕ
count_of (Ok (parts (slot name (slot (given (parts vs)) done)))) = Some (slots_count vs)
count_of other = None

-- 64 variables may be listed, and no 65
most_variables : Answers (λ n. count_of (read define_list (128 ∷ 1 ∷ 76 ∷ [] ++ 160 ∷ 130 ∷ 7 * n / 256 ∷ 7 * n % 256 ∷ variables_of n))) (
    (0, None) ∷
    (1, Some 1) ∷
    (64, Some 64) ∷
    (65, None) ∷
    [])
unfolding names specifications accesses access_results data_choice data_alternatives type_choice type_alternatives at_end integer_in part_at next_at required_part required_by chosen_by members_by elements_at optional_part optional_by defaulting integer_at definite_at identifier_at second_at third_at length_at long_length_at
most_variables = refl

-- GetNamedVariableListAttributes-Response
lists : Answers (read list_attributes) (
    (128 ∷ 1 ∷ 255 ∷ 161 ∷ 7 ∷ 48 ∷ 5 ∷ 161 ∷ 3 ∷ 128 ∷ 1 ∷ 5 ∷ [], says list_attributes (record { deletable = true; variables = Address 5 ∷ [] })) ∷
    (128 ∷ 1 ∷ 0 ∷ 161 ∷ 0 ∷ [], says list_attributes (record { deletable = false; variables = [] })) ∷
    (128 ∷ 1 ∷ 255 ∷ [], Err fault.malformed) ∷
    (161 ∷ 7 ∷ 48 ∷ 5 ∷ 161 ∷ 3 ∷ 128 ∷ 1 ∷ 5 ∷ [], Err fault.malformed) ∷
    (161 ∷ 7 ∷ 48 ∷ 5 ∷ 161 ∷ 3 ∷ 128 ∷ 1 ∷ 5 ∷ 128 ∷ 1 ∷ 255 ∷ [], Err fault.malformed) ∷
    (128 ∷ 1 ∷ 255 ∷ 161 ∷ 7 ∷ 48 ∷ 5 ∷ 161 ∷ 3 ∷ 128 ∷ 1 ∷ 5 ∷ 161 ∷ 7 ∷ 48 ∷ 5 ∷ 161 ∷ 3 ∷ 128 ∷ 1 ∷ 5 ∷ [], Err fault.malformed) ∷
    (128 ∷ 1 ∷ 255 ∷ 129 ∷ 7 ∷ 48 ∷ 5 ∷ 161 ∷ 3 ∷ 128 ∷ 1 ∷ 5 ∷ [], Err fault.malformed) ∷
    (128 ∷ 1 ∷ 255 ∷ 161 ∷ 5 ∷ 161 ∷ 3 ∷ 128 ∷ 1 ∷ 5 ∷ [], Err fault.malformed) ∷
    [])
unfolding names specifications accesses access_results data_choice data_alternatives type_choice type_alternatives at_end integer_in part_at next_at required_part required_by chosen_by members_by elements_at optional_part optional_by defaulting integer_at definite_at identifier_at second_at third_at length_at long_length_at
lists = refl

-- ---- the one spelling: what is equal to its default is left out

reads_written : Answers (written read_request) (
    (record { with_access = false; access = access.List (Vmd (76 ∷ [])) }, 161 ∷ 5 ∷ 161 ∷ 3 ∷ 128 ∷ 1 ∷ 76 ∷ []) ∷
    (record { with_access = true; access = Specs (Address 5 ∷ []) }, 128 ∷ 1 ∷ 255 ∷ 161 ∷ 9 ∷ 160 ∷ 7 ∷ 48 ∷ 5 ∷ 161 ∷ 3 ∷ 128 ∷ 1 ∷ 5 ∷ []) ∷
    [])
unfolding names specifications accesses access_results data_choice data_alternatives type_choice type_alternatives element_octets identifier_octets length_octets digits
reads_written = refl

answers_written : Answers (written read_answer) (
    (record { access = None; results = result.Failure ObjectNonExistent ∷ result.Success (datum.integer (pos 7)) ∷ [] }, 161 ∷ 6 ∷ 128 ∷ 1 ∷ 10 ∷ 133 ∷ 1 ∷ 7 ∷ []) ∷
    (record { access = Some (access.List (Vmd (76 ∷ []))); results = [] }, 160 ∷ 5 ∷ 161 ∷ 3 ∷ 128 ∷ 1 ∷ 76 ∷ 161 ∷ 0 ∷ []) ∷
    [])
unfolding names specifications accesses access_results data_choice data_alternatives type_choice type_alternatives element_octets identifier_octets length_octets digits
answers_written = refl

writes_written : Answers (written write_request) (
    (record { access = Specs (Name (Vmd (83 ∷ 112 ∷ 101 ∷ 101 ∷ 100 ∷ [])) ∷ []); values = datum.integer (pos 7) ∷ [] }, 160 ∷ 11 ∷ 48 ∷ 9 ∷ 160 ∷ 7 ∷ 128 ∷ 5 ∷ 83 ∷ 112 ∷ 101 ∷ 101 ∷ 100 ∷ 160 ∷ 3 ∷ 133 ∷ 1 ∷ 7 ∷ []) ∷
    [])
unfolding names specifications accesses access_results data_choice data_alternatives type_choice type_alternatives element_octets identifier_octets length_octets digits
writes_written = refl

write_answers_written : Answers (written write_answer) (
    (Failure ObjectAccessDenied ∷ Success ∷ [], 128 ∷ 1 ∷ 3 ∷ 129 ∷ 0 ∷ []) ∷
    [])
unfolding names specifications accesses access_results data_choice data_alternatives type_choice type_alternatives element_octets identifier_octets length_octets digits
write_answers_written = refl

attributes_written : Answers (written variable_attributes) (
    (record { deletable = true; address = Some 5; of = shape.integer 32 }, 128 ∷ 1 ∷ 255 ∷ 161 ∷ 3 ∷ 128 ∷ 1 ∷ 5 ∷ 162 ∷ 3 ∷ 133 ∷ 1 ∷ 32 ∷ []) ∷
    (record { deletable = false; address = None; of = shape.boolean }, 128 ∷ 1 ∷ 0 ∷ 162 ∷ 2 ∷ 131 ∷ 0 ∷ []) ∷
    [])
unfolding names specifications accesses access_results data_choice data_alternatives type_choice type_alternatives element_octets identifier_octets length_octets digits
attributes_written = refl

definitions_written : Answers (written define_variable) (
    (record { name = Vmd (65 ∷ []); address = 0; of = None }, 160 ∷ 3 ∷ 128 ∷ 1 ∷ 65 ∷ 161 ∷ 3 ∷ 128 ∷ 1 ∷ 0 ∷ []) ∷
    (record { name = Vmd (65 ∷ []); address = 300; of = Some shape.boolean }, 160 ∷ 3 ∷ 128 ∷ 1 ∷ 65 ∷ 161 ∷ 4 ∷ 128 ∷ 2 ∷ 1 ∷ 44 ∷ 162 ∷ 2 ∷ 131 ∷ 0 ∷ []) ∷
    [])
unfolding names specifications accesses access_results data_choice data_alternatives type_choice type_alternatives element_octets identifier_octets length_octets digits
definitions_written = refl

deletions_written : Answers (written delete_names) (
    (record { scope = Specific; names = Some (Vmd (65 ∷ []) ∷ []); domain = None }, 161 ∷ 3 ∷ 128 ∷ 1 ∷ 65 ∷ []) ∷
    (record { scope = scope.Domain; names = None; domain = Some (68 ∷ []) }, 128 ∷ 1 ∷ 2 ∷ 130 ∷ 1 ∷ 68 ∷ []) ∷
    [])
unfolding names specifications accesses access_results data_choice data_alternatives type_choice type_alternatives element_octets identifier_octets length_octets digits
deletions_written = refl

deleted_written : Answers (written deleted_names) (
    (record { matched = 2; deleted = 1 }, 128 ∷ 1 ∷ 2 ∷ 129 ∷ 1 ∷ 1 ∷ []) ∷
    [])
unfolding names specifications accesses access_results data_choice data_alternatives type_choice type_alternatives element_octets identifier_octets length_octets digits
deleted_written = refl

list_definitions_written : Answers (written define_list) (
    (record { name = Vmd (76 ∷ []); variables = Address 5 ∷ [] }, 128 ∷ 1 ∷ 76 ∷ 160 ∷ 7 ∷ 48 ∷ 5 ∷ 161 ∷ 3 ∷ 128 ∷ 1 ∷ 5 ∷ []) ∷
    [])
unfolding names specifications accesses access_results data_choice data_alternatives type_choice type_alternatives element_octets identifier_octets length_octets digits
list_definitions_written = refl

lists_written : Answers (written list_attributes) (
    (record { deletable = true; variables = Address 5 ∷ [] }, 128 ∷ 1 ∷ 255 ∷ 161 ∷ 7 ∷ 48 ∷ 5 ∷ 161 ∷ 3 ∷ 128 ∷ 1 ∷ 5 ∷ []) ∷
    [])
unfolding names specifications accesses access_results data_choice data_alternatives type_choice type_alternatives element_octets identifier_octets length_octets digits
lists_written = refl
