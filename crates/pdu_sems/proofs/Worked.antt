-- Worked examples of the forms of the semaphore services: contents typed from ISO 9506-2 and ITU-T X.690.
use Rattle.std.specs.Prelude.{◌≡◌, ℕ, true, false, List, [], ◌∷◌, map, Option, Some, None, Result, Ok, Err}
use Rattle.std.proofs.Common.{refl}
use Rattle.ber_core.specs.Leaf.{integer_at}
use Rattle.ber_core.specs.Reading.{definite_at, identifier_at, second_at, third_at, length_at, long_length_at}
use Rattle.ber_core.specs.Spelling.{digits, identifier_octets, length_octets, element_octets}
use Rattle.ber_forms.specs.Fault.{Fault}
use Rattle.ber_forms.specs.Fault as fault
use Rattle.ber_forms.specs.Value.{Value}
use Rattle.ber_forms.specs.Reading.{reading, at_end, integer_in, defaulting, members_by, part_at, next_at, required_part, optional_part, required_by, chosen_by, optional_by, elements_at}
use Rattle.ber_forms.specs.Spelling.{spelling}
use Rattle.mms_types.specs.declared.identifier.Edition.TheVariants.{One}
use Rattle.mms_types.specs.declared.object_name.ObjectName.TheVariants.{Vmd, Domain, Association}
use Rattle.mms_types.specs.declared.semaphore.TakeControlAnswer.TheVariants.{NoResult}
use Rattle.mms_types.specs.declared.semaphore.TakeControlAnswer.TheVariants as taken
use Rattle.mms_types.specs.declared.semaphore.SemaphoreClass.TheVariants.{Token, Pool}
use Rattle.mms_types.specs.declared.semaphore.NamedToken.TheVariants.{Free, Owned, Hung}
use Rattle.mms_types.specs.declared.semaphore.EntryState.TheVariants.{Queued}
use Rattle.mms_types.specs.declared.semaphore.EntryState.TheVariants as entry
use Rattle.mms_types.specs.declared.semaphore.EntryClass.TheVariants.{Simple, Modifier}
use Rattle.pdu_names.specs.Editions.{lengths_of}
use Rattle.pdu_names.specs.Names.{names}
use Rattle.pdu_names.specs.Kinds.{Kind, choice}
use Rattle.pdu_sems.specs.Control.{take_control, take_control_answers, relinquish_control}
use Rattle.pdu_sems.specs.Definitions.{define_semaphore, semaphore_status}
use Rattle.pdu_sems.specs.Pools.{report_pool, pool_status}
use Rattle.pdu_sems.specs.Entries.{report_entries, entry_statuses}

-- a function answers each row of a table with its second column
abbrev Answers : {A B : Type 0} → (A → B) → List (A × B) → Type 0
Answers f table = map (λ row. f row.0) table ≡ map (λ row. row.1) table

abbrev read : {X : Type 0} → Kind X → List ℕ → Result Value Fault
read k octets = reading (lengths_of One) (k.form One) octets

-- what contents are read as this
abbrev says : {X : Type 0} → Kind X → X → Result Value Fault
says k x = Ok (k.value x)

abbrev written : {X : Type 0} → Kind X → X → List ℕ
written k x = spelling (k.form One) (k.value x)

-- Robots
abbrev robots : List ℕ
robots = 82 ∷ 111 ∷ 98 ∷ 111 ∷ 116 ∷ 115 ∷ []

-- TakeControl-Request: nothing but a name, each other component, all of them, those that are equal to their defaults, the widest numbers
takes : Answers (read take_control) (
    (160 ∷ 3 ∷ 128 ∷ 1 ∷ 84 ∷ [], says take_control (record { name = (Vmd (84 ∷ [])); token = None; priority = 64; delay = None; control = None; abort = None; relinquish = true; preempt = None })) ∷
    (160 ∷ 3 ∷ 128 ∷ 1 ∷ 84 ∷ 130 ∷ 1 ∷ 10 ∷ [], says take_control (record { name = (Vmd (84 ∷ [])); token = None; priority = 10; delay = None; control = None; abort = None; relinquish = true; preempt = None })) ∷
    (160 ∷ 3 ∷ 128 ∷ 1 ∷ 84 ∷ 130 ∷ 1 ∷ 127 ∷ [], says take_control (record { name = (Vmd (84 ∷ [])); token = None; priority = 127; delay = None; control = None; abort = None; relinquish = true; preempt = None })) ∷
    (160 ∷ 3 ∷ 128 ∷ 1 ∷ 84 ∷ 131 ∷ 1 ∷ 0 ∷ [], says take_control (record { name = (Vmd (84 ∷ [])); token = None; priority = 64; delay = Some 0; control = None; abort = None; relinquish = true; preempt = None })) ∷
    (160 ∷ 3 ∷ 128 ∷ 1 ∷ 84 ∷ 132 ∷ 1 ∷ 10 ∷ [], says take_control (record { name = (Vmd (84 ∷ [])); token = None; priority = 64; delay = None; control = Some 10; abort = None; relinquish = true; preempt = None })) ∷
    (160 ∷ 3 ∷ 128 ∷ 1 ∷ 84 ∷ 132 ∷ 1 ∷ 10 ∷ 133 ∷ 1 ∷ 255 ∷ [], says take_control (record { name = (Vmd (84 ∷ [])); token = None; priority = 64; delay = None; control = Some 10; abort = Some true; relinquish = true; preempt = None })) ∷
    (160 ∷ 3 ∷ 128 ∷ 1 ∷ 84 ∷ 133 ∷ 1 ∷ 0 ∷ [], says take_control (record { name = (Vmd (84 ∷ [])); token = None; priority = 64; delay = None; control = None; abort = Some false; relinquish = true; preempt = None })) ∷
    (160 ∷ 3 ∷ 128 ∷ 1 ∷ 84 ∷ 134 ∷ 1 ∷ 0 ∷ [], says take_control (record { name = (Vmd (84 ∷ [])); token = None; priority = 64; delay = None; control = None; abort = None; relinquish = false; preempt = None })) ∷
    (160 ∷ 3 ∷ 128 ∷ 1 ∷ 84 ∷ 167 ∷ 5 ∷ 161 ∷ 3 ∷ 2 ∷ 1 ∷ 1 ∷ [], says take_control (record { name = (Vmd (84 ∷ [])); token = None; priority = 64; delay = None; control = None; abort = None; relinquish = true; preempt = Some 1 })) ∷
    (160 ∷ 8 ∷ 128 ∷ 6 ∷ 82 ∷ 111 ∷ 98 ∷ 111 ∷ 116 ∷ 115 ∷ [], says take_control (record { name = (Vmd robots); token = None; priority = 64; delay = None; control = None; abort = None; relinquish = true; preempt = None })) ∷
    (160 ∷ 8 ∷ 128 ∷ 6 ∷ 82 ∷ 111 ∷ 98 ∷ 111 ∷ 116 ∷ 115 ∷ 129 ∷ 2 ∷ 82 ∷ 49 ∷ 130 ∷ 1 ∷ 0 ∷ 131 ∷ 2 ∷ 3 ∷ 232 ∷ 132 ∷ 1 ∷ 10 ∷ 133 ∷ 1 ∷ 255 ∷ 134 ∷ 1 ∷ 0 ∷ 167 ∷ 5 ∷ 161 ∷ 3 ∷ 2 ∷ 1 ∷ 7 ∷ [], says take_control (record { name = (Vmd robots); token = Some (82 ∷ 49 ∷ []); priority = 0; delay = Some 1000; control = Some 10; abort = Some true; relinquish = false; preempt = Some 7 })) ∷
    (160 ∷ 3 ∷ 128 ∷ 1 ∷ 84 ∷ 130 ∷ 1 ∷ 64 ∷ [], says take_control (record { name = (Vmd (84 ∷ [])); token = None; priority = 64; delay = None; control = None; abort = None; relinquish = true; preempt = None })) ∷
    (160 ∷ 3 ∷ 128 ∷ 1 ∷ 84 ∷ 134 ∷ 1 ∷ 255 ∷ [], says take_control (record { name = (Vmd (84 ∷ [])); token = None; priority = 64; delay = None; control = None; abort = None; relinquish = true; preempt = None })) ∷
    (160 ∷ 3 ∷ 128 ∷ 1 ∷ 84 ∷ 134 ∷ 1 ∷ 1 ∷ [], says take_control (record { name = (Vmd (84 ∷ [])); token = None; priority = 64; delay = None; control = None; abort = None; relinquish = true; preempt = None })) ∷
    (160 ∷ 3 ∷ 128 ∷ 1 ∷ 84 ∷ 130 ∷ 2 ∷ 0 ∷ 127 ∷ [], says take_control (record { name = (Vmd (84 ∷ [])); token = None; priority = 127; delay = None; control = None; abort = None; relinquish = true; preempt = None })) ∷
    (160 ∷ 3 ∷ 128 ∷ 1 ∷ 84 ∷ 131 ∷ 5 ∷ 0 ∷ 255 ∷ 255 ∷ 255 ∷ 255 ∷ [], says take_control (record { name = (Vmd (84 ∷ [])); token = None; priority = 64; delay = Some 4294967295; control = None; abort = None; relinquish = true; preempt = None })) ∷
    (160 ∷ 3 ∷ 128 ∷ 1 ∷ 84 ∷ 167 ∷ 129 ∷ 5 ∷ 161 ∷ 3 ∷ 2 ∷ 1 ∷ 1 ∷ [], says take_control (record { name = (Vmd (84 ∷ [])); token = None; priority = 64; delay = None; control = None; abort = None; relinquish = true; preempt = Some 1 })) ∷
    [])
unfolding names at_end integer_in part_at next_at required_part required_by chosen_by members_by elements_at optional_part optional_by defaulting integer_at definite_at identifier_at second_at third_at length_at long_length_at
takes = refl

-- a name that is missing, twice or not under its tag; parts out of order, twice, of a wrong length or beyond their range, with a wrong constructed bit; a part that isn't known; an octet behind
no_takes : Answers (read take_control) (
    ([], Err fault.malformed) ∷
    (128 ∷ 1 ∷ 84 ∷ [], Err fault.malformed) ∷
    (160 ∷ 0 ∷ [], Err fault.malformed) ∷
    (128 ∷ 3 ∷ 128 ∷ 1 ∷ 84 ∷ [], Err fault.malformed) ∷
    (160 ∷ 3 ∷ 128 ∷ 1 ∷ 84 ∷ 160 ∷ 3 ∷ 128 ∷ 1 ∷ 84 ∷ [], Err fault.malformed) ∷
    (130 ∷ 1 ∷ 10 ∷ 160 ∷ 3 ∷ 128 ∷ 1 ∷ 84 ∷ [], Err fault.malformed) ∷
    (160 ∷ 3 ∷ 128 ∷ 1 ∷ 84 ∷ 129 ∷ 0 ∷ [], Err fault.malformed) ∷
    (160 ∷ 3 ∷ 128 ∷ 1 ∷ 84 ∷ 129 ∷ 1 ∷ 48 ∷ [], Err fault.malformed) ∷
    (160 ∷ 3 ∷ 128 ∷ 1 ∷ 84 ∷ 129 ∷ 33 ∷ 84 ∷ 84 ∷ 84 ∷ 84 ∷ 84 ∷ 84 ∷ 84 ∷ 84 ∷ 84 ∷ 84 ∷ 84 ∷ 84 ∷ 84 ∷ 84 ∷ 84 ∷ 84 ∷ 84 ∷ 84 ∷ 84 ∷ 84 ∷ 84 ∷ 84 ∷ 84 ∷ 84 ∷ 84 ∷ 84 ∷ 84 ∷ 84 ∷ 84 ∷ 84 ∷ 84 ∷ 84 ∷ 84 ∷ [], Err fault.malformed) ∷
    (160 ∷ 3 ∷ 128 ∷ 1 ∷ 84 ∷ 130 ∷ 0 ∷ [], Err fault.malformed) ∷
    (160 ∷ 3 ∷ 128 ∷ 1 ∷ 84 ∷ 130 ∷ 1 ∷ 128 ∷ [], Err fault.malformed) ∷
    (160 ∷ 3 ∷ 128 ∷ 1 ∷ 84 ∷ 130 ∷ 1 ∷ 255 ∷ [], Err fault.malformed) ∷
    (160 ∷ 3 ∷ 128 ∷ 1 ∷ 84 ∷ 130 ∷ 2 ∷ 0 ∷ 128 ∷ [], Err fault.malformed) ∷
    (160 ∷ 3 ∷ 128 ∷ 1 ∷ 84 ∷ 130 ∷ 1 ∷ 10 ∷ 130 ∷ 1 ∷ 10 ∷ [], Err fault.malformed) ∷
    (160 ∷ 3 ∷ 128 ∷ 1 ∷ 84 ∷ 130 ∷ 1 ∷ 10 ∷ 129 ∷ 1 ∷ 65 ∷ [], Err fault.malformed) ∷
    (160 ∷ 3 ∷ 128 ∷ 1 ∷ 84 ∷ 162 ∷ 1 ∷ 10 ∷ [], Err fault.malformed) ∷
    (160 ∷ 3 ∷ 128 ∷ 1 ∷ 84 ∷ 131 ∷ 0 ∷ [], Err fault.malformed) ∷
    (160 ∷ 3 ∷ 128 ∷ 1 ∷ 84 ∷ 131 ∷ 1 ∷ 255 ∷ [], Err fault.malformed) ∷
    (160 ∷ 3 ∷ 128 ∷ 1 ∷ 84 ∷ 131 ∷ 5 ∷ 1 ∷ 0 ∷ 0 ∷ 0 ∷ 0 ∷ [], Err fault.malformed) ∷
    (160 ∷ 3 ∷ 128 ∷ 1 ∷ 84 ∷ 132 ∷ 1 ∷ 10 ∷ 131 ∷ 1 ∷ 0 ∷ [], Err fault.malformed) ∷
    (160 ∷ 3 ∷ 128 ∷ 1 ∷ 84 ∷ 132 ∷ 9 ∷ 0 ∷ 0 ∷ 0 ∷ 0 ∷ 0 ∷ 0 ∷ 0 ∷ 0 ∷ 10 ∷ [], Err fault.malformed) ∷
    (160 ∷ 3 ∷ 128 ∷ 1 ∷ 84 ∷ 133 ∷ 0 ∷ [], Err fault.malformed) ∷
    (160 ∷ 3 ∷ 128 ∷ 1 ∷ 84 ∷ 133 ∷ 2 ∷ 0 ∷ 0 ∷ [], Err fault.malformed) ∷
    (160 ∷ 3 ∷ 128 ∷ 1 ∷ 84 ∷ 134 ∷ 0 ∷ [], Err fault.malformed) ∷
    (160 ∷ 3 ∷ 128 ∷ 1 ∷ 84 ∷ 134 ∷ 1 ∷ 0 ∷ 134 ∷ 1 ∷ 0 ∷ [], Err fault.malformed) ∷
    (160 ∷ 3 ∷ 128 ∷ 1 ∷ 84 ∷ 136 ∷ 0 ∷ [], Err fault.malformed) ∷
    (160 ∷ 3 ∷ 128 ∷ 1 ∷ 84 ∷ 0 ∷ [], Err fault.malformed) ∷
    [])
unfolding names at_end integer_in part_at next_at required_part required_by chosen_by members_by elements_at optional_part optional_by defaulting integer_at definite_at identifier_at second_at third_at length_at long_length_at
no_takes = refl

-- applicationToPreempt: empty, primitive, without its explicit tag, twice, another component, another type, a SEQUENCE in it, beyond 32 bits
no_clients : Answers (read take_control) (
    (160 ∷ 3 ∷ 128 ∷ 1 ∷ 84 ∷ 167 ∷ 0 ∷ [], Err fault.malformed) ∷
    (160 ∷ 3 ∷ 128 ∷ 1 ∷ 84 ∷ 135 ∷ 5 ∷ 161 ∷ 3 ∷ 2 ∷ 1 ∷ 1 ∷ [], Err fault.malformed) ∷
    (160 ∷ 3 ∷ 128 ∷ 1 ∷ 84 ∷ 167 ∷ 3 ∷ 2 ∷ 1 ∷ 1 ∷ [], Err fault.malformed) ∷
    (160 ∷ 3 ∷ 128 ∷ 1 ∷ 84 ∷ 167 ∷ 3 ∷ 129 ∷ 1 ∷ 1 ∷ [], Err fault.malformed) ∷
    (160 ∷ 3 ∷ 128 ∷ 1 ∷ 84 ∷ 167 ∷ 10 ∷ 161 ∷ 3 ∷ 2 ∷ 1 ∷ 1 ∷ 161 ∷ 3 ∷ 2 ∷ 1 ∷ 1 ∷ [], Err fault.malformed) ∷
    (160 ∷ 3 ∷ 128 ∷ 1 ∷ 84 ∷ 167 ∷ 5 ∷ 160 ∷ 3 ∷ 2 ∷ 1 ∷ 1 ∷ [], Err fault.malformed) ∷
    (160 ∷ 3 ∷ 128 ∷ 1 ∷ 84 ∷ 167 ∷ 5 ∷ 161 ∷ 3 ∷ 4 ∷ 1 ∷ 1 ∷ [], Err fault.malformed) ∷
    (160 ∷ 3 ∷ 128 ∷ 1 ∷ 84 ∷ 167 ∷ 2 ∷ 161 ∷ 0 ∷ [], Err fault.malformed) ∷
    (160 ∷ 3 ∷ 128 ∷ 1 ∷ 84 ∷ 167 ∷ 7 ∷ 48 ∷ 5 ∷ 161 ∷ 3 ∷ 2 ∷ 1 ∷ 1 ∷ [], Err fault.malformed) ∷
    (160 ∷ 3 ∷ 128 ∷ 1 ∷ 84 ∷ 167 ∷ 9 ∷ 161 ∷ 7 ∷ 2 ∷ 5 ∷ 1 ∷ 0 ∷ 0 ∷ 0 ∷ 0 ∷ [], Err fault.malformed) ∷
    (160 ∷ 3 ∷ 128 ∷ 1 ∷ 84 ∷ 167 ∷ 5 ∷ 161 ∷ 3 ∷ 2 ∷ 1 ∷ 255 ∷ [], Err fault.malformed) ∷
    [])
unfolding names at_end integer_in part_at next_at required_part required_by chosen_by members_by elements_at optional_part optional_by defaulting integer_at definite_at identifier_at second_at third_at length_at long_length_at
no_clients = refl

-- TakeControl-Response: no result, the token that was given; a NULL with contents, a wrong constructed bit, no identifier, no alternative, none, two
grants : Answers (read (choice take_control_answers)) (
    (128 ∷ 0 ∷ [], says (choice take_control_answers) (NoResult)) ∷
    (129 ∷ 2 ∷ 82 ∷ 49 ∷ [], says (choice take_control_answers) (taken.NamedToken (82 ∷ 49 ∷ []))) ∷
    (128 ∷ 1 ∷ 0 ∷ [], Err fault.malformed) ∷
    (160 ∷ 0 ∷ [], Err fault.malformed) ∷
    (129 ∷ 0 ∷ [], Err fault.malformed) ∷
    (161 ∷ 2 ∷ 82 ∷ 49 ∷ [], Err fault.malformed) ∷
    (130 ∷ 0 ∷ [], Err fault.malformed) ∷
    ([], Err fault.malformed) ∷
    (128 ∷ 0 ∷ 128 ∷ 0 ∷ [], Err fault.malformed) ∷
    (128 ∷ 0 ∷ 129 ∷ 2 ∷ 82 ∷ 49 ∷ [], Err fault.malformed) ∷
    [])
unfolding names at_end integer_in part_at next_at required_part required_by chosen_by members_by elements_at optional_part optional_by defaulting integer_at definite_at identifier_at second_at third_at length_at long_length_at
grants = refl

-- RelinquishControl-Request
relinquishes : Answers (read relinquish_control) (
    (160 ∷ 3 ∷ 128 ∷ 1 ∷ 84 ∷ [], says relinquish_control (record { name = (Vmd (84 ∷ [])); token = None })) ∷
    (160 ∷ 8 ∷ 128 ∷ 6 ∷ 82 ∷ 111 ∷ 98 ∷ 111 ∷ 116 ∷ 115 ∷ 129 ∷ 2 ∷ 82 ∷ 49 ∷ [], says relinquish_control (record { name = (Vmd robots); token = Some (82 ∷ 49 ∷ []) })) ∷
    ([], Err fault.malformed) ∷
    (129 ∷ 2 ∷ 82 ∷ 49 ∷ [], Err fault.malformed) ∷
    (160 ∷ 3 ∷ 128 ∷ 1 ∷ 84 ∷ 160 ∷ 3 ∷ 128 ∷ 1 ∷ 84 ∷ [], Err fault.malformed) ∷
    (160 ∷ 3 ∷ 128 ∷ 1 ∷ 84 ∷ 129 ∷ 0 ∷ [], Err fault.malformed) ∷
    (160 ∷ 3 ∷ 128 ∷ 1 ∷ 84 ∷ 129 ∷ 1 ∷ 65 ∷ 129 ∷ 1 ∷ 65 ∷ [], Err fault.malformed) ∷
    (160 ∷ 3 ∷ 128 ∷ 1 ∷ 84 ∷ 161 ∷ 1 ∷ 65 ∷ [], Err fault.malformed) ∷
    (160 ∷ 3 ∷ 128 ∷ 1 ∷ 84 ∷ 130 ∷ 1 ∷ 65 ∷ [], Err fault.malformed) ∷
    (128 ∷ 1 ∷ 84 ∷ [], Err fault.malformed) ∷
    [])
unfolding names at_end integer_in part_at next_at required_part required_by chosen_by members_by elements_at optional_part optional_by defaulting integer_at definite_at identifier_at second_at third_at length_at long_length_at
relinquishes = refl

-- DefineSemaphore-Request: from 1 to 65,535 tokens; none, too many, no number, twice, out of order
definitions : Answers (read define_semaphore) (
    (160 ∷ 3 ∷ 128 ∷ 1 ∷ 84 ∷ 129 ∷ 1 ∷ 1 ∷ [], says define_semaphore (record { name = (Vmd (84 ∷ [])); tokens = 1 })) ∷
    (160 ∷ 3 ∷ 128 ∷ 1 ∷ 84 ∷ 129 ∷ 3 ∷ 0 ∷ 255 ∷ 255 ∷ [], says define_semaphore (record { name = (Vmd (84 ∷ [])); tokens = 65535 })) ∷
    ([], Err fault.malformed) ∷
    (160 ∷ 3 ∷ 128 ∷ 1 ∷ 84 ∷ [], Err fault.malformed) ∷
    (129 ∷ 1 ∷ 1 ∷ [], Err fault.malformed) ∷
    (160 ∷ 3 ∷ 128 ∷ 1 ∷ 84 ∷ 129 ∷ 0 ∷ [], Err fault.malformed) ∷
    (160 ∷ 3 ∷ 128 ∷ 1 ∷ 84 ∷ 129 ∷ 1 ∷ 0 ∷ [], Err fault.malformed) ∷
    (160 ∷ 3 ∷ 128 ∷ 1 ∷ 84 ∷ 129 ∷ 1 ∷ 255 ∷ [], Err fault.malformed) ∷
    (160 ∷ 3 ∷ 128 ∷ 1 ∷ 84 ∷ 129 ∷ 3 ∷ 1 ∷ 0 ∷ 0 ∷ [], Err fault.malformed) ∷
    (160 ∷ 3 ∷ 128 ∷ 1 ∷ 84 ∷ 129 ∷ 1 ∷ 1 ∷ 129 ∷ 1 ∷ 1 ∷ [], Err fault.malformed) ∷
    (129 ∷ 1 ∷ 1 ∷ 160 ∷ 3 ∷ 128 ∷ 1 ∷ 84 ∷ [], Err fault.malformed) ∷
    (160 ∷ 3 ∷ 128 ∷ 1 ∷ 84 ∷ 161 ∷ 1 ∷ 1 ∷ [], Err fault.malformed) ∷
    (160 ∷ 3 ∷ 128 ∷ 1 ∷ 84 ∷ 130 ∷ 1 ∷ 1 ∷ [], Err fault.malformed) ∷
    (160 ∷ 3 ∷ 128 ∷ 1 ∷ 84 ∷ 129 ∷ 1 ∷ 1 ∷ 0 ∷ [], Err fault.malformed) ∷
    (129 ∷ 1 ∷ 1 ∷ [], Err fault.malformed) ∷
    [])
unfolding names at_end integer_in part_at next_at required_part required_by chosen_by members_by elements_at optional_part optional_by defaulting integer_at definite_at identifier_at second_at third_at length_at long_length_at
definitions = refl

-- DeleteSemaphore-Request and ReportSemaphoreStatus-Request
names_asked : Answers (read (choice names)) (
    (128 ∷ 1 ∷ 84 ∷ [], says (choice names) (Vmd (84 ∷ []))) ∷
    (161 ∷ 6 ∷ 26 ∷ 1 ∷ 68 ∷ 26 ∷ 1 ∷ 84 ∷ [], says (choice names) (Domain (68 ∷ []) (84 ∷ []))) ∷
    (130 ∷ 1 ∷ 84 ∷ [], says (choice names) (Association (84 ∷ []))) ∷
    ([], Err fault.malformed) ∷
    (160 ∷ 3 ∷ 128 ∷ 1 ∷ 84 ∷ [], Err fault.malformed) ∷
    (128 ∷ 0 ∷ [], Err fault.malformed) ∷
    (160 ∷ 1 ∷ 84 ∷ [], Err fault.malformed) ∷
    (131 ∷ 1 ∷ 84 ∷ [], Err fault.malformed) ∷
    (128 ∷ 1 ∷ 84 ∷ 128 ∷ 1 ∷ 84 ∷ [], Err fault.malformed) ∷
    (161 ∷ 3 ∷ 26 ∷ 1 ∷ 68 ∷ [], Err fault.malformed) ∷
    [])
unfolding names at_end integer_in part_at next_at required_part required_by chosen_by members_by elements_at optional_part optional_by defaulting integer_at definite_at identifier_at second_at third_at length_at long_length_at
names_asked = refl

-- ReportSemaphoreStatus-Response: each part missing, twice, of a wrong length, beyond its range
statuses : Answers (read semaphore_status) (
    (128 ∷ 1 ∷ 255 ∷ 129 ∷ 1 ∷ 0 ∷ 130 ∷ 1 ∷ 1 ∷ 131 ∷ 1 ∷ 0 ∷ 132 ∷ 1 ∷ 0 ∷ [], says semaphore_status (record { deletable = true; class = Token; tokens = 1; owned = 0; hung = 0 })) ∷
    (128 ∷ 1 ∷ 255 ∷ 129 ∷ 1 ∷ 0 ∷ 130 ∷ 1 ∷ 1 ∷ 131 ∷ 1 ∷ 0 ∷ 132 ∷ 1 ∷ 1 ∷ [], says semaphore_status (record { deletable = true; class = Token; tokens = 1; owned = 0; hung = 1 })) ∷
    (128 ∷ 1 ∷ 0 ∷ 129 ∷ 1 ∷ 1 ∷ 130 ∷ 1 ∷ 2 ∷ 131 ∷ 1 ∷ 1 ∷ 132 ∷ 1 ∷ 0 ∷ [], says semaphore_status (record { deletable = false; class = Pool; tokens = 2; owned = 1; hung = 0 })) ∷
    (128 ∷ 1 ∷ 0 ∷ 129 ∷ 1 ∷ 0 ∷ 130 ∷ 3 ∷ 0 ∷ 255 ∷ 255 ∷ 131 ∷ 3 ∷ 0 ∷ 255 ∷ 255 ∷ 132 ∷ 1 ∷ 0 ∷ [], says semaphore_status (record { deletable = false; class = Token; tokens = 65535; owned = 65535; hung = 0 })) ∷
    ([], Err fault.malformed) ∷
    (129 ∷ 1 ∷ 0 ∷ 130 ∷ 1 ∷ 1 ∷ 131 ∷ 1 ∷ 0 ∷ 132 ∷ 1 ∷ 0 ∷ [], Err fault.malformed) ∷
    (128 ∷ 1 ∷ 255 ∷ 130 ∷ 1 ∷ 1 ∷ 131 ∷ 1 ∷ 0 ∷ 132 ∷ 1 ∷ 0 ∷ [], Err fault.malformed) ∷
    (128 ∷ 1 ∷ 255 ∷ 129 ∷ 1 ∷ 0 ∷ 131 ∷ 1 ∷ 0 ∷ 132 ∷ 1 ∷ 0 ∷ [], Err fault.malformed) ∷
    (128 ∷ 1 ∷ 255 ∷ 129 ∷ 1 ∷ 0 ∷ 130 ∷ 1 ∷ 1 ∷ 132 ∷ 1 ∷ 0 ∷ [], Err fault.malformed) ∷
    (128 ∷ 1 ∷ 255 ∷ 129 ∷ 1 ∷ 0 ∷ 130 ∷ 1 ∷ 1 ∷ 131 ∷ 1 ∷ 0 ∷ [], Err fault.malformed) ∷
    (128 ∷ 1 ∷ 255 ∷ 128 ∷ 1 ∷ 255 ∷ 129 ∷ 1 ∷ 0 ∷ 130 ∷ 1 ∷ 1 ∷ 131 ∷ 1 ∷ 0 ∷ 132 ∷ 1 ∷ 0 ∷ [], Err fault.malformed) ∷
    (128 ∷ 1 ∷ 255 ∷ 129 ∷ 1 ∷ 0 ∷ 129 ∷ 1 ∷ 0 ∷ 130 ∷ 1 ∷ 1 ∷ 131 ∷ 1 ∷ 0 ∷ 132 ∷ 1 ∷ 0 ∷ [], Err fault.malformed) ∷
    (128 ∷ 1 ∷ 255 ∷ 129 ∷ 1 ∷ 0 ∷ 130 ∷ 1 ∷ 1 ∷ 131 ∷ 1 ∷ 0 ∷ 132 ∷ 1 ∷ 0 ∷ 132 ∷ 1 ∷ 0 ∷ [], Err fault.malformed) ∷
    (128 ∷ 1 ∷ 255 ∷ 129 ∷ 1 ∷ 0 ∷ 130 ∷ 1 ∷ 1 ∷ 131 ∷ 1 ∷ 0 ∷ 132 ∷ 1 ∷ 0 ∷ 133 ∷ 1 ∷ 0 ∷ [], Err fault.malformed) ∷
    (128 ∷ 0 ∷ 129 ∷ 1 ∷ 0 ∷ 130 ∷ 1 ∷ 1 ∷ 131 ∷ 1 ∷ 0 ∷ 132 ∷ 1 ∷ 0 ∷ [], Err fault.malformed) ∷
    (128 ∷ 2 ∷ 0 ∷ 0 ∷ 129 ∷ 1 ∷ 0 ∷ 130 ∷ 1 ∷ 1 ∷ 131 ∷ 1 ∷ 0 ∷ 132 ∷ 1 ∷ 0 ∷ [], Err fault.malformed) ∷
    (128 ∷ 1 ∷ 255 ∷ 129 ∷ 1 ∷ 2 ∷ 130 ∷ 1 ∷ 1 ∷ 131 ∷ 1 ∷ 0 ∷ 132 ∷ 1 ∷ 0 ∷ [], Err fault.malformed) ∷
    (128 ∷ 1 ∷ 255 ∷ 129 ∷ 0 ∷ 130 ∷ 1 ∷ 1 ∷ 131 ∷ 1 ∷ 0 ∷ 132 ∷ 1 ∷ 0 ∷ [], Err fault.malformed) ∷
    (128 ∷ 1 ∷ 255 ∷ 129 ∷ 1 ∷ 0 ∷ 130 ∷ 3 ∷ 1 ∷ 0 ∷ 0 ∷ 131 ∷ 1 ∷ 0 ∷ 132 ∷ 1 ∷ 0 ∷ [], Err fault.malformed) ∷
    (128 ∷ 1 ∷ 255 ∷ 129 ∷ 1 ∷ 0 ∷ 130 ∷ 1 ∷ 255 ∷ 131 ∷ 1 ∷ 0 ∷ 132 ∷ 1 ∷ 0 ∷ [], Err fault.malformed) ∷
    (128 ∷ 1 ∷ 255 ∷ 129 ∷ 1 ∷ 0 ∷ 130 ∷ 1 ∷ 1 ∷ 131 ∷ 0 ∷ 132 ∷ 1 ∷ 0 ∷ [], Err fault.malformed) ∷
    (128 ∷ 1 ∷ 255 ∷ 129 ∷ 1 ∷ 0 ∷ 130 ∷ 1 ∷ 1 ∷ 131 ∷ 1 ∷ 0 ∷ 132 ∷ 1 ∷ 255 ∷ [], Err fault.malformed) ∷
    (128 ∷ 1 ∷ 255 ∷ 129 ∷ 1 ∷ 0 ∷ 130 ∷ 1 ∷ 1 ∷ 131 ∷ 1 ∷ 0 ∷ 164 ∷ 1 ∷ 0 ∷ [], Err fault.malformed) ∷
    [])
unfolding names at_end integer_in part_at next_at required_part required_by chosen_by members_by elements_at optional_part optional_by defaulting integer_at definite_at identifier_at second_at third_at length_at long_length_at
statuses = refl

-- ReportPoolSemaphoreStatus-Request
pools_asked : Answers (read report_pool) (
    (160 ∷ 8 ∷ 128 ∷ 6 ∷ 82 ∷ 111 ∷ 98 ∷ 111 ∷ 116 ∷ 115 ∷ [], says report_pool (record { name = (Vmd robots); after = None })) ∷
    (160 ∷ 8 ∷ 128 ∷ 6 ∷ 82 ∷ 111 ∷ 98 ∷ 111 ∷ 116 ∷ 115 ∷ 129 ∷ 2 ∷ 82 ∷ 49 ∷ [], says report_pool (record { name = (Vmd robots); after = Some (82 ∷ 49 ∷ []) })) ∷
    ([], Err fault.malformed) ∷
    (129 ∷ 2 ∷ 82 ∷ 49 ∷ [], Err fault.malformed) ∷
    (129 ∷ 2 ∷ 82 ∷ 49 ∷ 160 ∷ 8 ∷ 128 ∷ 6 ∷ 82 ∷ 111 ∷ 98 ∷ 111 ∷ 116 ∷ 115 ∷ [], Err fault.malformed) ∷
    (160 ∷ 8 ∷ 128 ∷ 6 ∷ 82 ∷ 111 ∷ 98 ∷ 111 ∷ 116 ∷ 115 ∷ 160 ∷ 8 ∷ 128 ∷ 6 ∷ 82 ∷ 111 ∷ 98 ∷ 111 ∷ 116 ∷ 115 ∷ [], Err fault.malformed) ∷
    (160 ∷ 8 ∷ 128 ∷ 6 ∷ 82 ∷ 111 ∷ 98 ∷ 111 ∷ 116 ∷ 115 ∷ 129 ∷ 0 ∷ [], Err fault.malformed) ∷
    (160 ∷ 8 ∷ 128 ∷ 6 ∷ 82 ∷ 111 ∷ 98 ∷ 111 ∷ 116 ∷ 115 ∷ 161 ∷ 2 ∷ 82 ∷ 49 ∷ [], Err fault.malformed) ∷
    (160 ∷ 8 ∷ 128 ∷ 6 ∷ 82 ∷ 111 ∷ 98 ∷ 111 ∷ 116 ∷ 115 ∷ 129 ∷ 1 ∷ 65 ∷ 129 ∷ 1 ∷ 65 ∷ [], Err fault.malformed) ∷
    (160 ∷ 8 ∷ 128 ∷ 6 ∷ 82 ∷ 111 ∷ 98 ∷ 111 ∷ 116 ∷ 115 ∷ 130 ∷ 1 ∷ 65 ∷ [], Err fault.malformed) ∷
    [])
unfolding names at_end integer_in part_at next_at required_part required_by chosen_by members_by elements_at optional_part optional_by defaulting integer_at definite_at identifier_at second_at third_at length_at long_length_at
pools_asked = refl

-- ReportPoolSemaphoreStatus-Response: tokens of each kind, none; moreFollows missing, twice, too long; no kind of token
pools : Answers (read pool_status) (
    (160 ∷ 12 ∷ 129 ∷ 2 ∷ 82 ∷ 49 ∷ 128 ∷ 2 ∷ 82 ∷ 50 ∷ 130 ∷ 2 ∷ 82 ∷ 51 ∷ 129 ∷ 1 ∷ 255 ∷ [], says pool_status (record { tokens = Owned (82 ∷ 49 ∷ []) ∷ Free (82 ∷ 50 ∷ []) ∷ Hung (82 ∷ 51 ∷ []) ∷ []; more = true })) ∷
    (160 ∷ 0 ∷ 129 ∷ 1 ∷ 0 ∷ [], says pool_status (record { tokens = []; more = false })) ∷
    ([], Err fault.malformed) ∷
    (160 ∷ 0 ∷ [], Err fault.malformed) ∷
    (129 ∷ 1 ∷ 0 ∷ [], Err fault.malformed) ∷
    (129 ∷ 1 ∷ 0 ∷ 160 ∷ 0 ∷ [], Err fault.malformed) ∷
    (160 ∷ 0 ∷ 160 ∷ 0 ∷ 129 ∷ 1 ∷ 0 ∷ [], Err fault.malformed) ∷
    (160 ∷ 0 ∷ 129 ∷ 1 ∷ 0 ∷ 129 ∷ 1 ∷ 0 ∷ [], Err fault.malformed) ∷
    (160 ∷ 0 ∷ 129 ∷ 0 ∷ [], Err fault.malformed) ∷
    (160 ∷ 0 ∷ 129 ∷ 2 ∷ 0 ∷ 0 ∷ [], Err fault.malformed) ∷
    (128 ∷ 0 ∷ 129 ∷ 1 ∷ 0 ∷ [], Err fault.malformed) ∷
    (160 ∷ 3 ∷ 131 ∷ 1 ∷ 65 ∷ 129 ∷ 1 ∷ 0 ∷ [], Err fault.malformed) ∷
    (160 ∷ 2 ∷ 128 ∷ 0 ∷ 129 ∷ 1 ∷ 0 ∷ [], Err fault.malformed) ∷
    (160 ∷ 3 ∷ 160 ∷ 1 ∷ 65 ∷ 129 ∷ 1 ∷ 0 ∷ [], Err fault.malformed) ∷
    (160 ∷ 2 ∷ 128 ∷ 1 ∷ 129 ∷ 1 ∷ 0 ∷ [], Err fault.malformed) ∷
    [])
unfolding names at_end integer_in part_at next_at required_part required_by chosen_by members_by elements_at optional_part optional_by defaulting integer_at definite_at identifier_at second_at third_at length_at long_length_at
pools = refl

-- ReportSemaphoreEntryStatus-Request: each state; no state, none that there is; an entry's number of 7, 9 and no octets, and twice
entries_asked : Answers (read report_entries) (
    (160 ∷ 3 ∷ 128 ∷ 1 ∷ 84 ∷ 129 ∷ 1 ∷ 0 ∷ [], says report_entries (record { name = (Vmd (84 ∷ [])); state = Queued; after = None })) ∷
    (160 ∷ 3 ∷ 128 ∷ 1 ∷ 84 ∷ 129 ∷ 1 ∷ 1 ∷ [], says report_entries (record { name = (Vmd (84 ∷ [])); state = entry.Owner; after = None })) ∷
    (160 ∷ 3 ∷ 128 ∷ 1 ∷ 84 ∷ 129 ∷ 1 ∷ 2 ∷ 130 ∷ 8 ∷ 0 ∷ 0 ∷ 0 ∷ 0 ∷ 0 ∷ 0 ∷ 0 ∷ 7 ∷ [], says report_entries (record { name = (Vmd (84 ∷ [])); state = entry.Hung; after = Some (record { octets = 0 ∷ 0 ∷ 0 ∷ 0 ∷ 0 ∷ 0 ∷ 0 ∷ 7 ∷ [] }) })) ∷
    ([], Err fault.malformed) ∷
    (160 ∷ 3 ∷ 128 ∷ 1 ∷ 84 ∷ [], Err fault.malformed) ∷
    (129 ∷ 1 ∷ 0 ∷ [], Err fault.malformed) ∷
    (160 ∷ 3 ∷ 128 ∷ 1 ∷ 84 ∷ 129 ∷ 0 ∷ [], Err fault.malformed) ∷
    (160 ∷ 3 ∷ 128 ∷ 1 ∷ 84 ∷ 129 ∷ 1 ∷ 3 ∷ [], Err fault.malformed) ∷
    (160 ∷ 3 ∷ 128 ∷ 1 ∷ 84 ∷ 129 ∷ 1 ∷ 255 ∷ [], Err fault.malformed) ∷
    (160 ∷ 3 ∷ 128 ∷ 1 ∷ 84 ∷ 129 ∷ 1 ∷ 0 ∷ 129 ∷ 1 ∷ 0 ∷ [], Err fault.malformed) ∷
    (129 ∷ 1 ∷ 0 ∷ 160 ∷ 3 ∷ 128 ∷ 1 ∷ 84 ∷ [], Err fault.malformed) ∷
    (160 ∷ 3 ∷ 128 ∷ 1 ∷ 84 ∷ 129 ∷ 1 ∷ 0 ∷ 130 ∷ 7 ∷ 0 ∷ 0 ∷ 0 ∷ 0 ∷ 0 ∷ 0 ∷ 7 ∷ [], Err fault.malformed) ∷
    (160 ∷ 3 ∷ 128 ∷ 1 ∷ 84 ∷ 129 ∷ 1 ∷ 0 ∷ 130 ∷ 9 ∷ 0 ∷ 0 ∷ 0 ∷ 0 ∷ 0 ∷ 0 ∷ 0 ∷ 0 ∷ 7 ∷ [], Err fault.malformed) ∷
    (160 ∷ 3 ∷ 128 ∷ 1 ∷ 84 ∷ 129 ∷ 1 ∷ 0 ∷ 130 ∷ 0 ∷ [], Err fault.malformed) ∷
    (160 ∷ 3 ∷ 128 ∷ 1 ∷ 84 ∷ 130 ∷ 8 ∷ 0 ∷ 0 ∷ 0 ∷ 0 ∷ 0 ∷ 0 ∷ 0 ∷ 7 ∷ [], Err fault.malformed) ∷
    (160 ∷ 3 ∷ 128 ∷ 1 ∷ 84 ∷ 130 ∷ 8 ∷ 0 ∷ 0 ∷ 0 ∷ 0 ∷ 0 ∷ 0 ∷ 0 ∷ 7 ∷ 129 ∷ 1 ∷ 0 ∷ [], Err fault.malformed) ∷
    (160 ∷ 3 ∷ 128 ∷ 1 ∷ 84 ∷ 129 ∷ 1 ∷ 0 ∷ 162 ∷ 8 ∷ 0 ∷ 0 ∷ 0 ∷ 0 ∷ 0 ∷ 0 ∷ 0 ∷ 7 ∷ [], Err fault.malformed) ∷
    (160 ∷ 3 ∷ 128 ∷ 1 ∷ 84 ∷ 129 ∷ 1 ∷ 0 ∷ 130 ∷ 8 ∷ 0 ∷ 0 ∷ 0 ∷ 0 ∷ 0 ∷ 0 ∷ 0 ∷ 7 ∷ 130 ∷ 8 ∷ 0 ∷ 0 ∷ 0 ∷ 0 ∷ 0 ∷ 0 ∷ 0 ∷ 7 ∷ [], Err fault.malformed) ∷
    (160 ∷ 3 ∷ 128 ∷ 1 ∷ 84 ∷ 129 ∷ 1 ∷ 0 ∷ 131 ∷ 1 ∷ 0 ∷ [], Err fault.malformed) ∷
    [])
unfolding names at_end integer_in part_at next_at required_part required_by chosen_by members_by elements_at optional_part optional_by defaulting integer_at definite_at identifier_at second_at third_at length_at long_length_at
entries_asked = refl

-- ReportSemaphoreEntryStatus-Response: entries with what they need alone and with all, none; a default that is there, a number of one octet
entries : Answers (read entry_statuses) (
    (160 ∷ 22 ∷ 48 ∷ 20 ∷ 128 ∷ 8 ∷ 0 ∷ 0 ∷ 0 ∷ 0 ∷ 0 ∷ 0 ∷ 0 ∷ 1 ∷ 129 ∷ 1 ∷ 0 ∷ 162 ∷ 5 ∷ 161 ∷ 3 ∷ 2 ∷ 1 ∷ 1 ∷ 129 ∷ 1 ∷ 0 ∷ [], says entry_statuses (record { entries = (record { number = 0 ∷ 0 ∷ 0 ∷ 0 ∷ 0 ∷ 0 ∷ 0 ∷ 1 ∷ []; class = Simple; client = 1; token = None; priority = 64; remaining = None; abort = None; relinquish = true }) ∷ []; more = false })) ∷
    (160 ∷ 60 ∷ 48 ∷ 20 ∷ 128 ∷ 8 ∷ 0 ∷ 0 ∷ 0 ∷ 0 ∷ 0 ∷ 0 ∷ 0 ∷ 1 ∷ 129 ∷ 1 ∷ 0 ∷ 162 ∷ 5 ∷ 161 ∷ 3 ∷ 2 ∷ 1 ∷ 1 ∷ 48 ∷ 36 ∷ 128 ∷ 8 ∷ 0 ∷ 0 ∷ 0 ∷ 0 ∷ 0 ∷ 0 ∷ 0 ∷ 2 ∷ 129 ∷ 1 ∷ 1 ∷ 162 ∷ 5 ∷ 161 ∷ 3 ∷ 2 ∷ 1 ∷ 2 ∷ 131 ∷ 2 ∷ 82 ∷ 49 ∷ 132 ∷ 1 ∷ 10 ∷ 133 ∷ 1 ∷ 5 ∷ 134 ∷ 1 ∷ 255 ∷ 135 ∷ 1 ∷ 0 ∷ 129 ∷ 1 ∷ 255 ∷ [], says entry_statuses (record { entries = (record { number = 0 ∷ 0 ∷ 0 ∷ 0 ∷ 0 ∷ 0 ∷ 0 ∷ 1 ∷ []; class = Simple; client = 1; token = None; priority = 64; remaining = None; abort = None; relinquish = true }) ∷ (record { number = 0 ∷ 0 ∷ 0 ∷ 0 ∷ 0 ∷ 0 ∷ 0 ∷ 2 ∷ []; class = Modifier; client = 2; token = Some (82 ∷ 49 ∷ []); priority = 10; remaining = Some 5; abort = Some true; relinquish = false }) ∷ []; more = true })) ∷
    (160 ∷ 0 ∷ 129 ∷ 1 ∷ 0 ∷ [], says entry_statuses (record { entries = []; more = false })) ∷
    (160 ∷ 28 ∷ 48 ∷ 26 ∷ 128 ∷ 8 ∷ 0 ∷ 0 ∷ 0 ∷ 0 ∷ 0 ∷ 0 ∷ 0 ∷ 1 ∷ 129 ∷ 1 ∷ 0 ∷ 162 ∷ 5 ∷ 161 ∷ 3 ∷ 2 ∷ 1 ∷ 1 ∷ 132 ∷ 1 ∷ 64 ∷ 135 ∷ 1 ∷ 255 ∷ 129 ∷ 1 ∷ 0 ∷ [], says entry_statuses (record { entries = (record { number = 0 ∷ 0 ∷ 0 ∷ 0 ∷ 0 ∷ 0 ∷ 0 ∷ 1 ∷ []; class = Simple; client = 1; token = None; priority = 64; remaining = None; abort = None; relinquish = true }) ∷ []; more = false })) ∷
    (160 ∷ 15 ∷ 48 ∷ 13 ∷ 128 ∷ 1 ∷ 1 ∷ 129 ∷ 1 ∷ 0 ∷ 162 ∷ 5 ∷ 161 ∷ 3 ∷ 2 ∷ 1 ∷ 1 ∷ 129 ∷ 1 ∷ 0 ∷ [], says entry_statuses (record { entries = (record { number = 1 ∷ []; class = Simple; client = 1; token = None; priority = 64; remaining = None; abort = None; relinquish = true }) ∷ []; more = false })) ∷
    ([], Err fault.malformed) ∷
    (160 ∷ 0 ∷ [], Err fault.malformed) ∷
    (129 ∷ 1 ∷ 0 ∷ [], Err fault.malformed) ∷
    (129 ∷ 1 ∷ 0 ∷ 160 ∷ 0 ∷ [], Err fault.malformed) ∷
    (160 ∷ 0 ∷ 129 ∷ 0 ∷ [], Err fault.malformed) ∷
    (160 ∷ 0 ∷ 129 ∷ 1 ∷ 0 ∷ 129 ∷ 1 ∷ 0 ∷ [], Err fault.malformed) ∷
    [])
unfolding names at_end integer_in part_at next_at required_part required_by chosen_by members_by elements_at optional_part optional_by defaulting integer_at definite_at identifier_at second_at third_at length_at long_length_at
entries = refl

-- an entry: each part missing, twice, out of order, of a wrong length, beyond its range; one that isn't known; no SEQUENCE
no_entries : Answers (read entry_statuses) (
    (160 ∷ 12 ∷ 48 ∷ 10 ∷ 129 ∷ 1 ∷ 0 ∷ 162 ∷ 5 ∷ 161 ∷ 3 ∷ 2 ∷ 1 ∷ 1 ∷ 129 ∷ 1 ∷ 0 ∷ [], Err fault.malformed) ∷
    (160 ∷ 19 ∷ 48 ∷ 17 ∷ 128 ∷ 8 ∷ 0 ∷ 0 ∷ 0 ∷ 0 ∷ 0 ∷ 0 ∷ 0 ∷ 1 ∷ 162 ∷ 5 ∷ 161 ∷ 3 ∷ 2 ∷ 1 ∷ 1 ∷ 129 ∷ 1 ∷ 0 ∷ [], Err fault.malformed) ∷
    (160 ∷ 15 ∷ 48 ∷ 13 ∷ 128 ∷ 8 ∷ 0 ∷ 0 ∷ 0 ∷ 0 ∷ 0 ∷ 0 ∷ 0 ∷ 1 ∷ 129 ∷ 1 ∷ 0 ∷ 129 ∷ 1 ∷ 0 ∷ [], Err fault.malformed) ∷
    (160 ∷ 32 ∷ 48 ∷ 30 ∷ 128 ∷ 8 ∷ 0 ∷ 0 ∷ 0 ∷ 0 ∷ 0 ∷ 0 ∷ 0 ∷ 1 ∷ 128 ∷ 8 ∷ 0 ∷ 0 ∷ 0 ∷ 0 ∷ 0 ∷ 0 ∷ 0 ∷ 1 ∷ 129 ∷ 1 ∷ 0 ∷ 162 ∷ 5 ∷ 161 ∷ 3 ∷ 2 ∷ 1 ∷ 1 ∷ 129 ∷ 1 ∷ 0 ∷ [], Err fault.malformed) ∷
    (160 ∷ 25 ∷ 48 ∷ 23 ∷ 128 ∷ 8 ∷ 0 ∷ 0 ∷ 0 ∷ 0 ∷ 0 ∷ 0 ∷ 0 ∷ 1 ∷ 129 ∷ 1 ∷ 0 ∷ 129 ∷ 1 ∷ 0 ∷ 162 ∷ 5 ∷ 161 ∷ 3 ∷ 2 ∷ 1 ∷ 1 ∷ 129 ∷ 1 ∷ 0 ∷ [], Err fault.malformed) ∷
    (160 ∷ 29 ∷ 48 ∷ 27 ∷ 128 ∷ 8 ∷ 0 ∷ 0 ∷ 0 ∷ 0 ∷ 0 ∷ 0 ∷ 0 ∷ 1 ∷ 129 ∷ 1 ∷ 0 ∷ 162 ∷ 5 ∷ 161 ∷ 3 ∷ 2 ∷ 1 ∷ 1 ∷ 162 ∷ 5 ∷ 161 ∷ 3 ∷ 2 ∷ 1 ∷ 1 ∷ 129 ∷ 1 ∷ 0 ∷ [], Err fault.malformed) ∷
    (160 ∷ 22 ∷ 48 ∷ 20 ∷ 128 ∷ 8 ∷ 0 ∷ 0 ∷ 0 ∷ 0 ∷ 0 ∷ 0 ∷ 0 ∷ 1 ∷ 129 ∷ 1 ∷ 2 ∷ 162 ∷ 5 ∷ 161 ∷ 3 ∷ 2 ∷ 1 ∷ 1 ∷ 129 ∷ 1 ∷ 0 ∷ [], Err fault.malformed) ∷
    (160 ∷ 21 ∷ 48 ∷ 19 ∷ 128 ∷ 8 ∷ 0 ∷ 0 ∷ 0 ∷ 0 ∷ 0 ∷ 0 ∷ 0 ∷ 1 ∷ 129 ∷ 0 ∷ 162 ∷ 5 ∷ 161 ∷ 3 ∷ 2 ∷ 1 ∷ 1 ∷ 129 ∷ 1 ∷ 0 ∷ [], Err fault.malformed) ∷
    (160 ∷ 20 ∷ 48 ∷ 18 ∷ 128 ∷ 8 ∷ 0 ∷ 0 ∷ 0 ∷ 0 ∷ 0 ∷ 0 ∷ 0 ∷ 1 ∷ 129 ∷ 1 ∷ 0 ∷ 162 ∷ 3 ∷ 2 ∷ 1 ∷ 1 ∷ 129 ∷ 1 ∷ 0 ∷ [], Err fault.malformed) ∷
    (160 ∷ 24 ∷ 48 ∷ 22 ∷ 128 ∷ 8 ∷ 0 ∷ 0 ∷ 0 ∷ 0 ∷ 0 ∷ 0 ∷ 0 ∷ 1 ∷ 129 ∷ 1 ∷ 0 ∷ 162 ∷ 5 ∷ 161 ∷ 3 ∷ 2 ∷ 1 ∷ 1 ∷ 131 ∷ 0 ∷ 129 ∷ 1 ∷ 0 ∷ [], Err fault.malformed) ∷
    (160 ∷ 25 ∷ 48 ∷ 23 ∷ 128 ∷ 8 ∷ 0 ∷ 0 ∷ 0 ∷ 0 ∷ 0 ∷ 0 ∷ 0 ∷ 1 ∷ 129 ∷ 1 ∷ 0 ∷ 162 ∷ 5 ∷ 161 ∷ 3 ∷ 2 ∷ 1 ∷ 1 ∷ 132 ∷ 1 ∷ 128 ∷ 129 ∷ 1 ∷ 0 ∷ [], Err fault.malformed) ∷
    (160 ∷ 28 ∷ 48 ∷ 26 ∷ 128 ∷ 8 ∷ 0 ∷ 0 ∷ 0 ∷ 0 ∷ 0 ∷ 0 ∷ 0 ∷ 1 ∷ 129 ∷ 1 ∷ 0 ∷ 162 ∷ 5 ∷ 161 ∷ 3 ∷ 2 ∷ 1 ∷ 1 ∷ 132 ∷ 1 ∷ 10 ∷ 132 ∷ 1 ∷ 10 ∷ 129 ∷ 1 ∷ 0 ∷ [], Err fault.malformed) ∷
    (160 ∷ 29 ∷ 48 ∷ 27 ∷ 128 ∷ 8 ∷ 0 ∷ 0 ∷ 0 ∷ 0 ∷ 0 ∷ 0 ∷ 0 ∷ 1 ∷ 129 ∷ 1 ∷ 0 ∷ 162 ∷ 5 ∷ 161 ∷ 3 ∷ 2 ∷ 1 ∷ 1 ∷ 133 ∷ 5 ∷ 1 ∷ 0 ∷ 0 ∷ 0 ∷ 0 ∷ 129 ∷ 1 ∷ 0 ∷ [], Err fault.malformed) ∷
    (160 ∷ 25 ∷ 48 ∷ 23 ∷ 128 ∷ 8 ∷ 0 ∷ 0 ∷ 0 ∷ 0 ∷ 0 ∷ 0 ∷ 0 ∷ 1 ∷ 129 ∷ 1 ∷ 0 ∷ 162 ∷ 5 ∷ 161 ∷ 3 ∷ 2 ∷ 1 ∷ 1 ∷ 133 ∷ 1 ∷ 255 ∷ 129 ∷ 1 ∷ 0 ∷ [], Err fault.malformed) ∷
    (160 ∷ 24 ∷ 48 ∷ 22 ∷ 128 ∷ 8 ∷ 0 ∷ 0 ∷ 0 ∷ 0 ∷ 0 ∷ 0 ∷ 0 ∷ 1 ∷ 129 ∷ 1 ∷ 0 ∷ 162 ∷ 5 ∷ 161 ∷ 3 ∷ 2 ∷ 1 ∷ 1 ∷ 134 ∷ 0 ∷ 129 ∷ 1 ∷ 0 ∷ [], Err fault.malformed) ∷
    (160 ∷ 26 ∷ 48 ∷ 24 ∷ 128 ∷ 8 ∷ 0 ∷ 0 ∷ 0 ∷ 0 ∷ 0 ∷ 0 ∷ 0 ∷ 1 ∷ 129 ∷ 1 ∷ 0 ∷ 162 ∷ 5 ∷ 161 ∷ 3 ∷ 2 ∷ 1 ∷ 1 ∷ 135 ∷ 2 ∷ 0 ∷ 0 ∷ 129 ∷ 1 ∷ 0 ∷ [], Err fault.malformed) ∷
    (160 ∷ 28 ∷ 48 ∷ 26 ∷ 128 ∷ 8 ∷ 0 ∷ 0 ∷ 0 ∷ 0 ∷ 0 ∷ 0 ∷ 0 ∷ 1 ∷ 129 ∷ 1 ∷ 0 ∷ 162 ∷ 5 ∷ 161 ∷ 3 ∷ 2 ∷ 1 ∷ 1 ∷ 134 ∷ 1 ∷ 255 ∷ 133 ∷ 1 ∷ 5 ∷ 129 ∷ 1 ∷ 0 ∷ [], Err fault.malformed) ∷
    (160 ∷ 24 ∷ 48 ∷ 22 ∷ 128 ∷ 8 ∷ 0 ∷ 0 ∷ 0 ∷ 0 ∷ 0 ∷ 0 ∷ 0 ∷ 1 ∷ 129 ∷ 1 ∷ 0 ∷ 162 ∷ 5 ∷ 161 ∷ 3 ∷ 2 ∷ 1 ∷ 1 ∷ 136 ∷ 0 ∷ 129 ∷ 1 ∷ 0 ∷ [], Err fault.malformed) ∷
    (160 ∷ 20 ∷ 128 ∷ 8 ∷ 0 ∷ 0 ∷ 0 ∷ 0 ∷ 0 ∷ 0 ∷ 0 ∷ 1 ∷ 129 ∷ 1 ∷ 0 ∷ 162 ∷ 5 ∷ 161 ∷ 3 ∷ 2 ∷ 1 ∷ 1 ∷ 129 ∷ 1 ∷ 0 ∷ [], Err fault.malformed) ∷
    (160 ∷ 22 ∷ 16 ∷ 20 ∷ 128 ∷ 8 ∷ 0 ∷ 0 ∷ 0 ∷ 0 ∷ 0 ∷ 0 ∷ 0 ∷ 1 ∷ 129 ∷ 1 ∷ 0 ∷ 162 ∷ 5 ∷ 161 ∷ 3 ∷ 2 ∷ 1 ∷ 1 ∷ 129 ∷ 1 ∷ 0 ∷ [], Err fault.malformed) ∷
    [])
unfolding names at_end integer_in part_at next_at required_part required_by chosen_by members_by elements_at optional_part optional_by defaulting integer_at definite_at identifier_at second_at third_at length_at long_length_at
no_entries = refl

-- ---- what is spelled

-- defaults are left out
takes_written : Answers (written take_control) (
    (record { name = (Vmd (84 ∷ [])); token = None; priority = 64; delay = None; control = None; abort = None; relinquish = true; preempt = None }, 160 ∷ 3 ∷ 128 ∷ 1 ∷ 84 ∷ []) ∷
    (record { name = (Vmd (84 ∷ [])); token = None; priority = 10; delay = None; control = None; abort = None; relinquish = true; preempt = None }, 160 ∷ 3 ∷ 128 ∷ 1 ∷ 84 ∷ 130 ∷ 1 ∷ 10 ∷ []) ∷
    (record { name = (Vmd (84 ∷ [])); token = None; priority = 127; delay = None; control = None; abort = None; relinquish = true; preempt = None }, 160 ∷ 3 ∷ 128 ∷ 1 ∷ 84 ∷ 130 ∷ 1 ∷ 127 ∷ []) ∷
    (record { name = (Vmd (84 ∷ [])); token = None; priority = 64; delay = Some 0; control = None; abort = None; relinquish = true; preempt = None }, 160 ∷ 3 ∷ 128 ∷ 1 ∷ 84 ∷ 131 ∷ 1 ∷ 0 ∷ []) ∷
    (record { name = (Vmd (84 ∷ [])); token = None; priority = 64; delay = None; control = Some 10; abort = None; relinquish = true; preempt = None }, 160 ∷ 3 ∷ 128 ∷ 1 ∷ 84 ∷ 132 ∷ 1 ∷ 10 ∷ []) ∷
    (record { name = (Vmd (84 ∷ [])); token = None; priority = 64; delay = None; control = Some 10; abort = Some true; relinquish = true; preempt = None }, 160 ∷ 3 ∷ 128 ∷ 1 ∷ 84 ∷ 132 ∷ 1 ∷ 10 ∷ 133 ∷ 1 ∷ 255 ∷ []) ∷
    (record { name = (Vmd (84 ∷ [])); token = None; priority = 64; delay = None; control = None; abort = Some false; relinquish = true; preempt = None }, 160 ∷ 3 ∷ 128 ∷ 1 ∷ 84 ∷ 133 ∷ 1 ∷ 0 ∷ []) ∷
    (record { name = (Vmd (84 ∷ [])); token = None; priority = 64; delay = None; control = None; abort = None; relinquish = false; preempt = None }, 160 ∷ 3 ∷ 128 ∷ 1 ∷ 84 ∷ 134 ∷ 1 ∷ 0 ∷ []) ∷
    (record { name = (Vmd (84 ∷ [])); token = None; priority = 64; delay = None; control = None; abort = None; relinquish = true; preempt = Some 1 }, 160 ∷ 3 ∷ 128 ∷ 1 ∷ 84 ∷ 167 ∷ 5 ∷ 161 ∷ 3 ∷ 2 ∷ 1 ∷ 1 ∷ []) ∷
    (record { name = (Vmd robots); token = None; priority = 64; delay = None; control = None; abort = None; relinquish = true; preempt = None }, 160 ∷ 8 ∷ 128 ∷ 6 ∷ 82 ∷ 111 ∷ 98 ∷ 111 ∷ 116 ∷ 115 ∷ []) ∷
    (record { name = (Vmd robots); token = Some (82 ∷ 49 ∷ []); priority = 0; delay = Some 1000; control = Some 10; abort = Some true; relinquish = false; preempt = Some 7 }, 160 ∷ 8 ∷ 128 ∷ 6 ∷ 82 ∷ 111 ∷ 98 ∷ 111 ∷ 116 ∷ 115 ∷ 129 ∷ 2 ∷ 82 ∷ 49 ∷ 130 ∷ 1 ∷ 0 ∷ 131 ∷ 2 ∷ 3 ∷ 232 ∷ 132 ∷ 1 ∷ 10 ∷ 133 ∷ 1 ∷ 255 ∷ 134 ∷ 1 ∷ 0 ∷ 167 ∷ 5 ∷ 161 ∷ 3 ∷ 2 ∷ 1 ∷ 7 ∷ []) ∷
    [])
unfolding names element_octets identifier_octets length_octets digits
takes_written = refl

grants_written : Answers (written (choice take_control_answers)) (
    (NoResult, 128 ∷ 0 ∷ []) ∷
    (taken.NamedToken (82 ∷ 49 ∷ []), 129 ∷ 2 ∷ 82 ∷ 49 ∷ []) ∷
    [])
unfolding names element_octets identifier_octets length_octets digits
grants_written = refl

relinquishes_written : Answers (written relinquish_control) (
    (record { name = (Vmd (84 ∷ [])); token = None }, 160 ∷ 3 ∷ 128 ∷ 1 ∷ 84 ∷ []) ∷
    (record { name = (Vmd robots); token = Some (82 ∷ 49 ∷ []) }, 160 ∷ 8 ∷ 128 ∷ 6 ∷ 82 ∷ 111 ∷ 98 ∷ 111 ∷ 116 ∷ 115 ∷ 129 ∷ 2 ∷ 82 ∷ 49 ∷ []) ∷
    [])
unfolding names element_octets identifier_octets length_octets digits
relinquishes_written = refl

definitions_written : Answers (written define_semaphore) (
    (record { name = (Vmd (84 ∷ [])); tokens = 1 }, 160 ∷ 3 ∷ 128 ∷ 1 ∷ 84 ∷ 129 ∷ 1 ∷ 1 ∷ []) ∷
    (record { name = (Vmd (84 ∷ [])); tokens = 65535 }, 160 ∷ 3 ∷ 128 ∷ 1 ∷ 84 ∷ 129 ∷ 3 ∷ 0 ∷ 255 ∷ 255 ∷ []) ∷
    [])
unfolding names element_octets identifier_octets length_octets digits
definitions_written = refl

statuses_written : Answers (written semaphore_status) (
    (record { deletable = true; class = Token; tokens = 1; owned = 0; hung = 0 }, 128 ∷ 1 ∷ 255 ∷ 129 ∷ 1 ∷ 0 ∷ 130 ∷ 1 ∷ 1 ∷ 131 ∷ 1 ∷ 0 ∷ 132 ∷ 1 ∷ 0 ∷ []) ∷
    (record { deletable = true; class = Token; tokens = 1; owned = 0; hung = 1 }, 128 ∷ 1 ∷ 255 ∷ 129 ∷ 1 ∷ 0 ∷ 130 ∷ 1 ∷ 1 ∷ 131 ∷ 1 ∷ 0 ∷ 132 ∷ 1 ∷ 1 ∷ []) ∷
    (record { deletable = false; class = Pool; tokens = 2; owned = 1; hung = 0 }, 128 ∷ 1 ∷ 0 ∷ 129 ∷ 1 ∷ 1 ∷ 130 ∷ 1 ∷ 2 ∷ 131 ∷ 1 ∷ 1 ∷ 132 ∷ 1 ∷ 0 ∷ []) ∷
    (record { deletable = false; class = Token; tokens = 65535; owned = 65535; hung = 0 }, 128 ∷ 1 ∷ 0 ∷ 129 ∷ 1 ∷ 0 ∷ 130 ∷ 3 ∷ 0 ∷ 255 ∷ 255 ∷ 131 ∷ 3 ∷ 0 ∷ 255 ∷ 255 ∷ 132 ∷ 1 ∷ 0 ∷ []) ∷
    [])
unfolding names element_octets identifier_octets length_octets digits
statuses_written = refl

pools_asked_written : Answers (written report_pool) (
    (record { name = (Vmd robots); after = None }, 160 ∷ 8 ∷ 128 ∷ 6 ∷ 82 ∷ 111 ∷ 98 ∷ 111 ∷ 116 ∷ 115 ∷ []) ∷
    (record { name = (Vmd robots); after = Some (82 ∷ 49 ∷ []) }, 160 ∷ 8 ∷ 128 ∷ 6 ∷ 82 ∷ 111 ∷ 98 ∷ 111 ∷ 116 ∷ 115 ∷ 129 ∷ 2 ∷ 82 ∷ 49 ∷ []) ∷
    [])
unfolding names element_octets identifier_octets length_octets digits
pools_asked_written = refl

pools_written : Answers (written pool_status) (
    (record { tokens = Owned (82 ∷ 49 ∷ []) ∷ Free (82 ∷ 50 ∷ []) ∷ Hung (82 ∷ 51 ∷ []) ∷ []; more = true }, 160 ∷ 12 ∷ 129 ∷ 2 ∷ 82 ∷ 49 ∷ 128 ∷ 2 ∷ 82 ∷ 50 ∷ 130 ∷ 2 ∷ 82 ∷ 51 ∷ 129 ∷ 1 ∷ 255 ∷ []) ∷
    (record { tokens = []; more = false }, 160 ∷ 0 ∷ 129 ∷ 1 ∷ 0 ∷ []) ∷
    [])
unfolding names element_octets identifier_octets length_octets digits
pools_written = refl

entries_asked_written : Answers (written report_entries) (
    (record { name = (Vmd (84 ∷ [])); state = Queued; after = None }, 160 ∷ 3 ∷ 128 ∷ 1 ∷ 84 ∷ 129 ∷ 1 ∷ 0 ∷ []) ∷
    (record { name = (Vmd (84 ∷ [])); state = entry.Owner; after = None }, 160 ∷ 3 ∷ 128 ∷ 1 ∷ 84 ∷ 129 ∷ 1 ∷ 1 ∷ []) ∷
    (record { name = (Vmd (84 ∷ [])); state = entry.Hung; after = Some (record { octets = 0 ∷ 0 ∷ 0 ∷ 0 ∷ 0 ∷ 0 ∷ 0 ∷ 7 ∷ [] }) }, 160 ∷ 3 ∷ 128 ∷ 1 ∷ 84 ∷ 129 ∷ 1 ∷ 2 ∷ 130 ∷ 8 ∷ 0 ∷ 0 ∷ 0 ∷ 0 ∷ 0 ∷ 0 ∷ 0 ∷ 7 ∷ []) ∷
    [])
unfolding names element_octets identifier_octets length_octets digits
entries_asked_written = refl

entries_written : Answers (written entry_statuses) (
    (record { entries = (record { number = 0 ∷ 0 ∷ 0 ∷ 0 ∷ 0 ∷ 0 ∷ 0 ∷ 1 ∷ []; class = Simple; client = 1; token = None; priority = 64; remaining = None; abort = None; relinquish = true }) ∷ []; more = false }, 160 ∷ 22 ∷ 48 ∷ 20 ∷ 128 ∷ 8 ∷ 0 ∷ 0 ∷ 0 ∷ 0 ∷ 0 ∷ 0 ∷ 0 ∷ 1 ∷ 129 ∷ 1 ∷ 0 ∷ 162 ∷ 5 ∷ 161 ∷ 3 ∷ 2 ∷ 1 ∷ 1 ∷ 129 ∷ 1 ∷ 0 ∷ []) ∷
    (record { entries = (record { number = 0 ∷ 0 ∷ 0 ∷ 0 ∷ 0 ∷ 0 ∷ 0 ∷ 1 ∷ []; class = Simple; client = 1; token = None; priority = 64; remaining = None; abort = None; relinquish = true }) ∷ (record { number = 0 ∷ 0 ∷ 0 ∷ 0 ∷ 0 ∷ 0 ∷ 0 ∷ 2 ∷ []; class = Modifier; client = 2; token = Some (82 ∷ 49 ∷ []); priority = 10; remaining = Some 5; abort = Some true; relinquish = false }) ∷ []; more = true }, 160 ∷ 60 ∷ 48 ∷ 20 ∷ 128 ∷ 8 ∷ 0 ∷ 0 ∷ 0 ∷ 0 ∷ 0 ∷ 0 ∷ 0 ∷ 1 ∷ 129 ∷ 1 ∷ 0 ∷ 162 ∷ 5 ∷ 161 ∷ 3 ∷ 2 ∷ 1 ∷ 1 ∷ 48 ∷ 36 ∷ 128 ∷ 8 ∷ 0 ∷ 0 ∷ 0 ∷ 0 ∷ 0 ∷ 0 ∷ 0 ∷ 2 ∷ 129 ∷ 1 ∷ 1 ∷ 162 ∷ 5 ∷ 161 ∷ 3 ∷ 2 ∷ 1 ∷ 2 ∷ 131 ∷ 2 ∷ 82 ∷ 49 ∷ 132 ∷ 1 ∷ 10 ∷ 133 ∷ 1 ∷ 5 ∷ 134 ∷ 1 ∷ 255 ∷ 135 ∷ 1 ∷ 0 ∷ 129 ∷ 1 ∷ 255 ∷ []) ∷
    (record { entries = []; more = false }, 160 ∷ 0 ∷ 129 ∷ 1 ∷ 0 ∷ []) ∷
    [])
unfolding names element_octets identifier_octets length_octets digits
entries_written = refl
