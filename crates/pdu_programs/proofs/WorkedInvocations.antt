-- Worked examples of the forms of the services for program invocations: contents typed from ISO 9506-2 and ITU-T X.690.
use Rattle.std.specs.Prelude.{◌≡◌, ℕ, zero, suc, true, false, List, [], ◌∷◌, ◌++◌, map, replicate, Some, None, Result, Ok, Err}
use Rattle.std.proofs.Common.{refl}
use Rattle.ber_core.specs.Leaf.{integer_at}
use Rattle.ber_core.specs.Reading.{definite_at, identifier_at, second_at, third_at, length_at, long_length_at}
use Rattle.ber_core.specs.Spelling.{digits, identifier_octets, length_octets, element_octets}
use Rattle.ber_forms.specs.Fault.{Fault}
use Rattle.ber_forms.specs.Fault as fault
use Rattle.ber_forms.specs.Value.{Value}
use Rattle.ber_forms.specs.Reading.{reading, at_end, integer_in, defaulting, members_by, part_at, next_at, required_part, optional_part, required_by, chosen_by, optional_by, elements_at}
use Rattle.ber_forms.specs.Spelling.{spelling}
use Rattle.mms_types.specs.InvocationStates.{state_refuses}
use Rattle.mms_types.specs.declared.identifier.Edition.TheVariants.{One}
use Rattle.mms_types.specs.declared.invocation.InvocationState.TheVariants.{Unrunnable, Idle, Running, Stopped}
use Rattle.pdu_assoc.specs.ServiceErrors.{numbered, service_error}
use Rattle.pdu_names.specs.Editions.{lengths_of}
use Rattle.pdu_names.specs.Names.{identifier}
use Rattle.pdu_names.specs.Kinds.{Kind, context, explicit}
use Rattle.pdu_programs.specs.Invocations.{create_program, invocation_attributes, named_program, run_program}

-- a function answers each row of a table with its second column
abbrev Answers : {A B : Type 0} → (A → B) → List (A × B) → Type 0
Answers f table = map (λ row. f row.0) table ≡ map (λ row. row.1) table

abbrev read : {X : Type 0} → Kind X → List ℕ → Result Value Fault
read k octets = reading (lengths_of One) (k.form One) octets

-- what contents are read as this
abbrev says : {X : Type 0} → Kind X → X → Result Value Fault
says k x = Ok (k.value x)

abbrev written : {X : Type 0} → Kind X → X → List ℕ
written k x = spelling (k.form One) (k.value x)

-- the one element of a service, by its number
abbrev service : {X : Type 0} → ℕ → Kind X → Kind X
service n k = explicit (context n k)

-- octets so many times
abbrev times : ℕ → List ℕ → List ℕ
times zero octets = []
times (suc n) octets = octets ++ times n octets

-- ---- services by their numbers

-- a client asks that P be made of D1, and of L and X
created : Answers (read (service 38 create_program)) (
    (191 ∷ 38 ∷ 9 ∷ 128 ∷ 1 ∷ 80 ∷ 161 ∷ 4 ∷ 26 ∷ 2 ∷ 68 ∷ 49 ∷ [], says (service 38 create_program) (record { name = 80 ∷ []; domains = (68 ∷ 49 ∷ []) ∷ []; reusable = true })) ∷
    (191 ∷ 38 ∷ 11 ∷ 128 ∷ 1 ∷ 80 ∷ 161 ∷ 6 ∷ 26 ∷ 1 ∷ 76 ∷ 26 ∷ 1 ∷ 88 ∷ [], says (service 38 create_program) (record { name = 80 ∷ []; domains = (76 ∷ []) ∷ (88 ∷ []) ∷ []; reusable = true })) ∷
    (159 ∷ 38 ∷ 9 ∷ 128 ∷ 1 ∷ 80 ∷ 161 ∷ 4 ∷ 26 ∷ 2 ∷ 68 ∷ 49 ∷ [], Err fault.malformed) ∷
    [])
unfolding at_end integer_in part_at next_at required_part required_by chosen_by members_by elements_at optional_part optional_by defaulting integer_at definite_at identifier_at second_at third_at length_at long_length_at
created = refl

-- P is deleted; started, stopped, resumed, reset and killed
deleted : Answers (read (service 39 identifier)) ((159 ∷ 39 ∷ 1 ∷ 80 ∷ [], says (service 39 identifier) (80 ∷ [])) ∷ (191 ∷ 39 ∷ 1 ∷ 80 ∷ [], Err fault.malformed) ∷ [])
unfolding at_end integer_in part_at next_at required_part required_by chosen_by members_by elements_at optional_part optional_by defaulting integer_at definite_at identifier_at second_at third_at length_at long_length_at
deleted = refl

started : Answers (read (service 40 run_program)) (
    (191 ∷ 40 ∷ 3 ∷ 128 ∷ 1 ∷ 80 ∷ [], says (service 40 run_program) (record { name = 80 ∷ []; argument = None })) ∷
    (191 ∷ 40 ∷ 5 ∷ 128 ∷ 1 ∷ 80 ∷ 129 ∷ 0 ∷ [], says (service 40 run_program) (record { name = 80 ∷ []; argument = Some [] })) ∷
    [])
unfolding at_end integer_in part_at next_at required_part required_by chosen_by members_by elements_at optional_part optional_by defaulting integer_at definite_at identifier_at second_at third_at length_at long_length_at
started = refl

stopped : Answers (read (service 41 named_program)) ((191 ∷ 41 ∷ 3 ∷ 128 ∷ 1 ∷ 80 ∷ [], says (service 41 named_program) (80 ∷ [])) ∷ (159 ∷ 41 ∷ 1 ∷ 80 ∷ [], Err fault.malformed) ∷ [])
unfolding at_end integer_in part_at next_at required_part required_by chosen_by members_by elements_at optional_part optional_by defaulting integer_at definite_at identifier_at second_at third_at length_at long_length_at
stopped = refl

shown_to : Answers (read (service 45 invocation_attributes)) (
    (191 ∷ 45 ∷ 20 ∷ 128 ∷ 1 ∷ 2 ∷ 161 ∷ 4 ∷ 26 ∷ 2 ∷ 68 ∷ 49 ∷ 130 ∷ 1 ∷ 255 ∷ 131 ∷ 1 ∷ 255 ∷ 132 ∷ 1 ∷ 0 ∷ 133 ∷ 0 ∷ [], says (service 45 invocation_attributes) (record { state = Idle; domains = (68 ∷ 49 ∷ []) ∷ []; deletable = true; reusable = true; monitor = false; argument = [] })) ∷
    [])
unfolding at_end integer_in part_at next_at required_part required_by chosen_by members_by elements_at optional_part optional_by defaulting integer_at definite_at identifier_at second_at third_at length_at long_length_at
shown_to = refl

-- ---- each form at its edges

-- CreateProgramInvocation-Request: reusable absent, TRUE, another TRUE and FALSE; 16 domains
creates : Answers (read create_program) (
    (128 ∷ 1 ∷ 80 ∷ 161 ∷ 3 ∷ 26 ∷ 1 ∷ 68 ∷ [], says create_program (record { name = 80 ∷ []; domains = (68 ∷ []) ∷ []; reusable = true })) ∷
    (128 ∷ 1 ∷ 80 ∷ 161 ∷ 3 ∷ 26 ∷ 1 ∷ 68 ∷ 130 ∷ 1 ∷ 255 ∷ [], says create_program (record { name = 80 ∷ []; domains = (68 ∷ []) ∷ []; reusable = true })) ∷
    (128 ∷ 1 ∷ 80 ∷ 161 ∷ 3 ∷ 26 ∷ 1 ∷ 68 ∷ 130 ∷ 1 ∷ 1 ∷ [], says create_program (record { name = 80 ∷ []; domains = (68 ∷ []) ∷ []; reusable = true })) ∷
    (128 ∷ 1 ∷ 80 ∷ 161 ∷ 3 ∷ 26 ∷ 1 ∷ 68 ∷ 130 ∷ 1 ∷ 0 ∷ [], says create_program (record { name = 80 ∷ []; domains = (68 ∷ []) ∷ []; reusable = false })) ∷
    (128 ∷ 1 ∷ 80 ∷ 161 ∷ 48 ∷ times 16 (26 ∷ 1 ∷ 68 ∷ []), says create_program (record { name = 80 ∷ []; domains = replicate 16 (68 ∷ []); reusable = true })) ∷
    [])
unfolding at_end integer_in part_at next_at required_part required_by chosen_by members_by elements_at optional_part optional_by defaulting integer_at definite_at identifier_at second_at third_at length_at long_length_at
creates = refl

-- no domain, a 17th, one that is no name or under another tag; a component missing, twice, out of order, of a wrong length or not known
no_creates : Answers (read create_program) (
    (128 ∷ 1 ∷ 80 ∷ 161 ∷ 0 ∷ [], Err fault.malformed) ∷
    (128 ∷ 1 ∷ 80 ∷ 161 ∷ 51 ∷ times 17 (26 ∷ 1 ∷ 68 ∷ []), Err fault.malformed) ∷
    (128 ∷ 1 ∷ 80 ∷ 161 ∷ 3 ∷ 26 ∷ 1 ∷ 49 ∷ [], Err fault.malformed) ∷
    (128 ∷ 1 ∷ 80 ∷ 161 ∷ 2 ∷ 26 ∷ 0 ∷ [], Err fault.malformed) ∷
    (128 ∷ 1 ∷ 80 ∷ 161 ∷ 3 ∷ 12 ∷ 1 ∷ 68 ∷ [], Err fault.malformed) ∷
    (128 ∷ 1 ∷ 49 ∷ 161 ∷ 3 ∷ 26 ∷ 1 ∷ 68 ∷ [], Err fault.malformed) ∷
    (161 ∷ 3 ∷ 26 ∷ 1 ∷ 68 ∷ [], Err fault.malformed) ∷
    (128 ∷ 1 ∷ 80 ∷ [], Err fault.malformed) ∷
    (161 ∷ 3 ∷ 26 ∷ 1 ∷ 68 ∷ 128 ∷ 1 ∷ 80 ∷ [], Err fault.malformed) ∷
    (128 ∷ 1 ∷ 80 ∷ 161 ∷ 3 ∷ 26 ∷ 1 ∷ 68 ∷ 130 ∷ 0 ∷ [], Err fault.malformed) ∷
    (128 ∷ 1 ∷ 80 ∷ 161 ∷ 3 ∷ 26 ∷ 1 ∷ 68 ∷ 130 ∷ 1 ∷ 255 ∷ 130 ∷ 1 ∷ 255 ∷ [], Err fault.malformed) ∷
    (128 ∷ 1 ∷ 80 ∷ 161 ∷ 3 ∷ 26 ∷ 1 ∷ 68 ∷ 131 ∷ 1 ∷ 255 ∷ [], Err fault.malformed) ∷
    ([], Err fault.malformed) ∷
    [])
unfolding at_end integer_in part_at next_at required_part required_by chosen_by members_by elements_at optional_part optional_by defaulting integer_at definite_at identifier_at second_at third_at length_at long_length_at
no_creates = refl

-- Start- and Resume-Request: no argument, an empty one, the first and the last sign, 255 octets
runs : Answers (read run_program) (
    (128 ∷ 1 ∷ 80 ∷ [], says run_program (record { name = 80 ∷ []; argument = None })) ∷
    (128 ∷ 1 ∷ 80 ∷ 129 ∷ 0 ∷ [], says run_program (record { name = 80 ∷ []; argument = Some [] })) ∷
    (128 ∷ 1 ∷ 80 ∷ 129 ∷ 2 ∷ 32 ∷ 126 ∷ [], says run_program (record { name = 80 ∷ []; argument = Some (32 ∷ 126 ∷ []) })) ∷
    (128 ∷ 1 ∷ 80 ∷ 129 ∷ 129 ∷ 255 ∷ times 255 (65 ∷ []), says run_program (record { name = 80 ∷ []; argument = Some (replicate 255 65) })) ∷
    [])
unfolding at_end integer_in part_at next_at required_part required_by chosen_by members_by elements_at optional_part optional_by defaulting integer_at definite_at identifier_at second_at third_at length_at long_length_at
runs = refl

-- 256 octets, another sign, a constructed argument, a name missing or that is none, an argument twice, before the name, or not known
no_runs : Answers (read run_program) (
    (128 ∷ 1 ∷ 80 ∷ 129 ∷ 130 ∷ 1 ∷ 0 ∷ times 256 (65 ∷ []), Err fault.malformed) ∷
    (128 ∷ 1 ∷ 80 ∷ 129 ∷ 1 ∷ 31 ∷ [], Err fault.malformed) ∷
    (128 ∷ 1 ∷ 80 ∷ 129 ∷ 1 ∷ 127 ∷ [], Err fault.malformed) ∷
    (128 ∷ 1 ∷ 80 ∷ 161 ∷ 0 ∷ [], Err fault.malformed) ∷
    (129 ∷ 0 ∷ [], Err fault.malformed) ∷
    (128 ∷ 0 ∷ [], Err fault.malformed) ∷
    (128 ∷ 1 ∷ 80 ∷ 129 ∷ 0 ∷ 129 ∷ 0 ∷ [], Err fault.malformed) ∷
    (129 ∷ 0 ∷ 128 ∷ 1 ∷ 80 ∷ [], Err fault.malformed) ∷
    (128 ∷ 1 ∷ 80 ∷ 130 ∷ 0 ∷ [], Err fault.malformed) ∷
    ([], Err fault.malformed) ∷
    [])
unfolding at_end integer_in part_at next_at required_part required_by chosen_by members_by elements_at optional_part optional_by defaulting integer_at definite_at identifier_at second_at third_at length_at long_length_at
no_runs = refl

-- Stop-, Reset- and Kill-Request: a name alone
named : Answers (read named_program) (
    (128 ∷ 1 ∷ 80 ∷ [], says named_program (80 ∷ [])) ∷
    (128 ∷ 1 ∷ 80 ∷ 129 ∷ 0 ∷ [], Err fault.malformed) ∷
    (128 ∷ 0 ∷ [], Err fault.malformed) ∷
    ([], Err fault.malformed) ∷
    [])
unfolding at_end integer_in part_at next_at required_part required_by chosen_by members_by elements_at optional_part optional_by defaulting integer_at definite_at identifier_at second_at third_at length_at long_length_at
named = refl

-- GetProgramInvocationAttributes-Response: each state
attributes : Answers (read invocation_attributes) (
    (128 ∷ 1 ∷ 1 ∷ 161 ∷ 0 ∷ 130 ∷ 1 ∷ 255 ∷ 131 ∷ 1 ∷ 0 ∷ 132 ∷ 1 ∷ 0 ∷ 133 ∷ 1 ∷ 65 ∷ [], says invocation_attributes (record { state = Unrunnable; domains = []; deletable = true; reusable = false; monitor = false; argument = 65 ∷ [] })) ∷
    (128 ∷ 1 ∷ 3 ∷ 161 ∷ 6 ∷ 26 ∷ 1 ∷ 68 ∷ 26 ∷ 1 ∷ 65 ∷ 130 ∷ 1 ∷ 255 ∷ 131 ∷ 1 ∷ 255 ∷ 132 ∷ 1 ∷ 0 ∷ 133 ∷ 0 ∷ [], says invocation_attributes (record { state = Running; domains = (68 ∷ []) ∷ (65 ∷ []) ∷ []; deletable = true; reusable = true; monitor = false; argument = [] })) ∷
    (128 ∷ 1 ∷ 4 ∷ 161 ∷ 0 ∷ 130 ∷ 1 ∷ 0 ∷ 131 ∷ 1 ∷ 255 ∷ 132 ∷ 1 ∷ 255 ∷ 133 ∷ 0 ∷ [], says invocation_attributes (record { state = Stopped; domains = []; deletable = false; reusable = true; monitor = true; argument = [] })) ∷
    (128 ∷ 1 ∷ 0 ∷ 161 ∷ 0 ∷ 130 ∷ 1 ∷ 255 ∷ 131 ∷ 1 ∷ 255 ∷ 132 ∷ 1 ∷ 0 ∷ 133 ∷ 0 ∷ [], Err fault.malformed) ∷
    (128 ∷ 1 ∷ 5 ∷ 161 ∷ 0 ∷ 130 ∷ 1 ∷ 255 ∷ 131 ∷ 1 ∷ 255 ∷ 132 ∷ 1 ∷ 0 ∷ 133 ∷ 0 ∷ [], Err fault.malformed) ∷
    (128 ∷ 1 ∷ 2 ∷ 161 ∷ 0 ∷ 130 ∷ 1 ∷ 255 ∷ 131 ∷ 1 ∷ 255 ∷ 132 ∷ 1 ∷ 0 ∷ [], Err fault.malformed) ∷
    (128 ∷ 1 ∷ 2 ∷ 161 ∷ 0 ∷ 130 ∷ 1 ∷ 255 ∷ 131 ∷ 1 ∷ 255 ∷ 133 ∷ 0 ∷ [], Err fault.malformed) ∷
    [])
unfolding at_end integer_in part_at next_at required_part required_by chosen_by members_by elements_at optional_part optional_by defaulting integer_at definite_at identifier_at second_at third_at length_at long_length_at
attributes = refl

-- ---- what is spelled

creates_written : Answers (written (service 38 create_program)) (
    (record { name = 80 ∷ []; domains = (68 ∷ 49 ∷ []) ∷ []; reusable = true }, 191 ∷ 38 ∷ 9 ∷ 128 ∷ 1 ∷ 80 ∷ 161 ∷ 4 ∷ 26 ∷ 2 ∷ 68 ∷ 49 ∷ []) ∷
    (record { name = 80 ∷ []; domains = (68 ∷ 49 ∷ []) ∷ []; reusable = false }, 191 ∷ 38 ∷ 12 ∷ 128 ∷ 1 ∷ 80 ∷ 161 ∷ 4 ∷ 26 ∷ 2 ∷ 68 ∷ 49 ∷ 130 ∷ 1 ∷ 0 ∷ []) ∷
    [])
unfolding element_octets identifier_octets length_octets digits
creates_written = refl

runs_written : Answers (written (service 42 run_program)) (
    (record { name = 80 ∷ []; argument = None }, 191 ∷ 42 ∷ 3 ∷ 128 ∷ 1 ∷ 80 ∷ []) ∷
    (record { name = 80 ∷ []; argument = Some [] }, 191 ∷ 42 ∷ 5 ∷ 128 ∷ 1 ∷ 80 ∷ 129 ∷ 0 ∷ []) ∷
    (record { name = 80 ∷ []; argument = Some (65 ∷ []) }, 191 ∷ 42 ∷ 6 ∷ 128 ∷ 1 ∷ 80 ∷ 129 ∷ 1 ∷ 65 ∷ []) ∷
    [])
unfolding element_octets identifier_octets length_octets digits
runs_written = refl

killed_written : Answers (written (service 44 named_program)) ((80 ∷ [], 191 ∷ 44 ∷ 3 ∷ 128 ∷ 1 ∷ 80 ∷ []) ∷ [])
unfolding element_octets identifier_octets length_octets digits
killed_written = refl

-- all six components, also an empty argument
attributes_written : Answers (written (service 45 invocation_attributes)) (
    (record { state = Idle; domains = (68 ∷ 49 ∷ []) ∷ []; deletable = true; reusable = true; monitor = false; argument = [] }, 191 ∷ 45 ∷ 20 ∷ 128 ∷ 1 ∷ 2 ∷ 161 ∷ 4 ∷ 26 ∷ 2 ∷ 68 ∷ 49 ∷ 130 ∷ 1 ∷ 255 ∷ 131 ∷ 1 ∷ 255 ∷ 132 ∷ 1 ∷ 0 ∷ 133 ∷ 0 ∷ []) ∷
    (record { state = Running; domains = (65 ∷ []) ∷ (80 ∷ []) ∷ []; deletable = true; reusable = true; monitor = false; argument = [] }, 191 ∷ 45 ∷ 22 ∷ 128 ∷ 1 ∷ 3 ∷ 161 ∷ 6 ∷ 26 ∷ 1 ∷ 65 ∷ 26 ∷ 1 ∷ 80 ∷ 130 ∷ 1 ∷ 255 ∷ 131 ∷ 1 ∷ 255 ∷ 132 ∷ 1 ∷ 0 ∷ 133 ∷ 0 ∷ []) ∷
    [])
unfolding element_octets identifier_octets length_octets digits
attributes_written = refl

-- the refusal of a command: class and code, and the state under the number of the command
refusals_written : Answers (written service_error) (
    (state_refuses 1 Unrunnable, 160 ∷ 3 ∷ 132 ∷ 1 ∷ 2 ∷ 163 ∷ 3 ∷ 129 ∷ 1 ∷ 1 ∷ []) ∷
    (state_refuses 2 Idle, 160 ∷ 3 ∷ 132 ∷ 1 ∷ 2 ∷ 163 ∷ 3 ∷ 130 ∷ 1 ∷ 2 ∷ []) ∷
    (state_refuses 3 Running, 160 ∷ 3 ∷ 132 ∷ 1 ∷ 2 ∷ 163 ∷ 3 ∷ 131 ∷ 1 ∷ 3 ∷ []) ∷
    (state_refuses 4 Stopped, 160 ∷ 3 ∷ 132 ∷ 1 ∷ 2 ∷ 163 ∷ 3 ∷ 132 ∷ 1 ∷ 4 ∷ []) ∷
    [])
unfolding element_octets identifier_octets length_octets digits numbered
refusals_written = refl
