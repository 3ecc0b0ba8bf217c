-- Worked examples of the forms of the services for event conditions and event enrollments: contents typed from ISO 9506-2 and ITU-T X.690.
use Rattle.std.specs.Prelude.{◌≡◌, ℕ, zero, suc, true, false, List, [], ◌∷◌, ◌++◌, map, Some, None, Result, Ok, Err}
use Rattle.std.proofs.Common.{refl}
use Rattle.ber_core.specs.Leaf.{integer_at}
use Rattle.ber_core.specs.Reading.{definite_at, identifier_at, second_at, third_at, length_at, long_length_at}
use Rattle.ber_core.specs.Spelling.{digits, identifier_octets, length_octets, element_octets}
use Rattle.ber_forms.specs.Bits.{first_bits}
use Rattle.ber_forms.specs.Fault.{Fault}
use Rattle.ber_forms.specs.Fault as fault
use Rattle.ber_forms.specs.Value.{Value}
use Rattle.ber_forms.specs.Reading.{reading, at_end, bits_in, integer_in, defaulting, members_by, part_at, next_at, required_part, optional_part, required_by, chosen_by, optional_by, elements_at}
use Rattle.ber_forms.specs.Spelling.{spelling}
use Rattle.mms_types.specs.declared.condition.ConditionState.TheVariants.{Disabled, Idle, Active}
use Rattle.mms_types.specs.declared.condition.DeleteEventEnrollment.TheVariants.{Names, Condition}
use Rattle.mms_types.specs.declared.condition.EventTime.TheVariants as time
use Rattle.mms_types.specs.declared.identifier.Edition.TheVariants.{One}
use Rattle.mms_types.specs.declared.object_name.ObjectName.TheVariants.{Vmd, Domain, Association}
use Rattle.mms_types.specs.declared.variable.Spec.TheVariants.{Name, Address}
use Rattle.pdu_names.specs.Editions.{lengths_of}
use Rattle.pdu_names.specs.Names.{names}
use Rattle.pdu_names.specs.Kinds.{Kind, null, unsigned32, choice, context, explicit}
use Rattle.pdu_vars.specs.Variables.{specifications}
use Rattle.pdu_events.specs.Times.{event_times}
use Rattle.pdu_events.specs.Conditions.{condition_status, define_condition, delete_conditions}
use Rattle.pdu_events.specs.Changes.{alter_monitoring, trigger_event}
use Rattle.pdu_events.specs.Enrollments.{define_enrollment, delete_enrollments, event_notification}

-- a function answers each row of a table with its second column
abbrev Answers : {A B : Type 0} → (A → B) → List (A × B) → Type 0
Answers f table = map (λ row. f row.0) table ≡ map (λ row. row.1) table

abbrev read : {X : Type 0} → Kind X → List ℕ → Result Value Fault
read k octets = reading (lengths_of One) (k.form One) octets

-- what contents are read as this
abbrev says : {X : Type 0} → Kind X → X → Result Value Fault
says k x = Ok (k.value x)

abbrev written : {X : Type 0} → Kind X → X → List ℕ
written k x = spelling (k.form One) (k.value x)

-- the one element of a service, by its number
abbrev service : {X : Type 0} → ℕ → Kind X → Kind X
service n k = explicit (context n k)

-- octets so many times
abbrev times : ℕ → List ℕ → List ℕ
times zero octets = []
times (suc n) octets = octets ++ times n octets

-- ---- services by their numbers

-- E is network-triggered; M watches cell 0, every 10 ms
defined : Answers (read (service 47 define_condition)) (
    (191 ∷ 47 ∷ 8 ∷ 160 ∷ 3 ∷ 128 ∷ 1 ∷ 69 ∷ 129 ∷ 1 ∷ 0 ∷ [], says (service 47 define_condition) (record { name = Vmd (69 ∷ []); priority = 64; severity = 64; summary = None; monitored = None })) ∷
    (191 ∷ 47 ∷ 18 ∷ 160 ∷ 3 ∷ 128 ∷ 1 ∷ 77 ∷ 129 ∷ 1 ∷ 1 ∷ 166 ∷ 5 ∷ 161 ∷ 3 ∷ 128 ∷ 1 ∷ 0 ∷ 135 ∷ 1 ∷ 10 ∷ [], says (service 47 define_condition) (record { name = Vmd (77 ∷ []); priority = 64; severity = 64; summary = None; monitored = Some (record { variable = (Address 0); interval = 10 }) })) ∷
    (159 ∷ 47 ∷ 8 ∷ 160 ∷ 3 ∷ 128 ∷ 1 ∷ 69 ∷ 129 ∷ 1 ∷ 0 ∷ [], Err fault.malformed) ∷
    [])
unfolding names specifications at_end bits_in integer_in first_bits part_at next_at required_part required_by chosen_by members_by elements_at optional_part optional_by defaulting integer_at definite_at identifier_at second_at third_at length_at long_length_at
defined = refl

-- E is deleted
deleted : Answers (read (service 48 (choice delete_conditions))) (
    (191 ∷ 48 ∷ 5 ∷ 160 ∷ 3 ∷ 128 ∷ 1 ∷ 69 ∷ [], says (service 48 (choice delete_conditions)) (Vmd (69 ∷ []) ∷ [])) ∷
    (159 ∷ 48 ∷ 5 ∷ 160 ∷ 3 ∷ 128 ∷ 1 ∷ 69 ∷ [], Err fault.malformed) ∷
    [])
unfolding names specifications at_end bits_in integer_in first_bits part_at next_at required_part required_by chosen_by members_by elements_at optional_part optional_by defaulting integer_at definite_at identifier_at second_at third_at length_at long_length_at
deleted = refl

-- one was missing
not_deleted : Answers (read (service 48 unsigned32)) (
    (159 ∷ 48 ∷ 1 ∷ 1 ∷ [], says (service 48 unsigned32) (1)) ∷
    [])
unfolding names specifications at_end bits_in integer_in first_bits part_at next_at required_part required_by chosen_by members_by elements_at optional_part optional_by defaulting integer_at definite_at identifier_at second_at third_at length_at long_length_at
not_deleted = refl

-- what M is
asked : Answers (read (service 50 (choice names))) (
    (191 ∷ 50 ∷ 3 ∷ 128 ∷ 1 ∷ 77 ∷ [], says (service 50 (choice names)) (Vmd (77 ∷ []))) ∷
    [])
unfolding names specifications at_end bits_in integer_in first_bits part_at next_at required_part required_by chosen_by members_by elements_at optional_part optional_by defaulting integer_at definite_at identifier_at second_at third_at length_at long_length_at
asked = refl

-- it is active since the beginning, was never to become idle, and nobody is enrolled
reported : Answers (read (service 50 condition_status)) (
    (191 ∷ 50 ∷ 23 ∷ 128 ∷ 1 ∷ 2 ∷ 129 ∷ 1 ∷ 0 ∷ 130 ∷ 1 ∷ 255 ∷ 163 ∷ 8 ∷ 128 ∷ 6 ∷ 0 ∷ 0 ∷ 0 ∷ 0 ∷ 0 ∷ 0 ∷ 164 ∷ 2 ∷ 130 ∷ 0 ∷ [], says (service 50 condition_status) (record { state = Active; enrolments = 0; enabled = true; to_active = time.TimeOfDay (record { ms = 0; day = 0 }); to_idle = time.Undefined })) ∷
    [])
unfolding names specifications at_end bits_in integer_in first_bits part_at next_at required_part required_by chosen_by members_by elements_at optional_part optional_by defaulting integer_at definite_at identifier_at second_at third_at length_at long_length_at
reported = refl

-- M is enabled
altered : Answers (read (service 51 alter_monitoring)) (
    (191 ∷ 51 ∷ 8 ∷ 160 ∷ 3 ∷ 128 ∷ 1 ∷ 77 ∷ 129 ∷ 1 ∷ 255 ∷ [], says (service 51 alter_monitoring) (record { name = Vmd (77 ∷ []); enabled = Some true; priority = None; summary = None; interval = None })) ∷
    [])
unfolding names specifications at_end bits_in integer_in first_bits part_at next_at required_part required_by chosen_by members_by elements_at optional_part optional_by defaulting integer_at definite_at identifier_at second_at third_at length_at long_length_at
altered = refl

-- E is triggered
triggered : Answers (read (service 52 trigger_event)) (
    (191 ∷ 52 ∷ 5 ∷ 160 ∷ 3 ∷ 128 ∷ 1 ∷ 69 ∷ [], says (service 52 trigger_event) (record { name = Vmd (69 ∷ []); priority = None })) ∷
    (191 ∷ 52 ∷ 8 ∷ 160 ∷ 3 ∷ 128 ∷ 1 ∷ 69 ∷ 129 ∷ 1 ∷ 127 ∷ [], says (service 52 trigger_event) (record { name = Vmd (69 ∷ []); priority = Some 127 })) ∷
    [])
unfolding names specifications at_end bits_in integer_in first_bits part_at next_at required_part required_by chosen_by members_by elements_at optional_part optional_by defaulting integer_at definite_at identifier_at second_at third_at length_at long_length_at
triggered = refl

-- a client enrolls N on E, for idle-to-active
enrolled : Answers (read (service 57 define_enrollment)) (
    (191 ∷ 57 ∷ 17 ∷ 160 ∷ 3 ∷ 128 ∷ 1 ∷ 78 ∷ 161 ∷ 3 ∷ 128 ∷ 1 ∷ 69 ∷ 130 ∷ 2 ∷ 1 ∷ 4 ∷ 131 ∷ 1 ∷ 0 ∷ [], says (service 57 define_enrollment) (record { name = Vmd (78 ∷ []); condition = Vmd (69 ∷ []); transitions = record { octets = 4 ∷ [] }; rule = 0 })) ∷
    [])
unfolding names specifications at_end bits_in integer_in first_bits part_at next_at required_part required_by chosen_by members_by elements_at optional_part optional_by defaulting integer_at definite_at identifier_at second_at third_at length_at long_length_at
enrolled = refl

-- by names, and all of the client's own on E
left : Answers (read (service 58 (choice delete_enrollments))) (
    (191 ∷ 58 ∷ 5 ∷ 160 ∷ 3 ∷ 128 ∷ 1 ∷ 78 ∷ [], says (service 58 (choice delete_enrollments)) (Names (Vmd (78 ∷ []) ∷ []))) ∷
    (191 ∷ 58 ∷ 5 ∷ 161 ∷ 3 ∷ 128 ∷ 1 ∷ 69 ∷ [], says (service 58 (choice delete_enrollments)) (Condition (Vmd (69 ∷ [])))) ∷
    [])
unfolding names specifications at_end bits_in integer_in first_bits part_at next_at required_part required_by chosen_by members_by elements_at optional_part optional_by defaulting integer_at definite_at identifier_at second_at third_at length_at long_length_at
left = refl

-- a client is told: N on E, active at 20; its own N on M, idle at the beginning; its own N on its own E, deleted at the last moment of all
notified : Answers (read (service 2 event_notification)) (
    (162 ∷ 26 ∷ 160 ∷ 3 ∷ 128 ∷ 1 ∷ 78 ∷ 161 ∷ 3 ∷ 128 ∷ 1 ∷ 69 ∷ 130 ∷ 1 ∷ 64 ∷ 131 ∷ 1 ∷ 2 ∷ 164 ∷ 8 ∷ 128 ∷ 6 ∷ 0 ∷ 0 ∷ 0 ∷ 20 ∷ 0 ∷ 0 ∷ [], says (service 2 event_notification) (record { enrolment = Vmd (78 ∷ []); condition = Vmd (69 ∷ []); severity = 64; state = Some Active; time = time.TimeOfDay (record { ms = 20; day = 0 }) })) ∷
    (162 ∷ 26 ∷ 160 ∷ 3 ∷ 130 ∷ 1 ∷ 78 ∷ 161 ∷ 3 ∷ 128 ∷ 1 ∷ 77 ∷ 130 ∷ 1 ∷ 64 ∷ 131 ∷ 1 ∷ 1 ∷ 164 ∷ 8 ∷ 128 ∷ 6 ∷ 0 ∷ 0 ∷ 0 ∷ 0 ∷ 0 ∷ 0 ∷ [], says (service 2 event_notification) (record { enrolment = Association (78 ∷ []); condition = Vmd (77 ∷ []); severity = 64; state = Some Idle; time = time.TimeOfDay (record { ms = 0; day = 0 }) })) ∷
    (162 ∷ 24 ∷ 160 ∷ 3 ∷ 130 ∷ 1 ∷ 78 ∷ 161 ∷ 3 ∷ 130 ∷ 1 ∷ 69 ∷ 130 ∷ 2 ∷ 0 ∷ 255 ∷ 164 ∷ 8 ∷ 128 ∷ 6 ∷ 5 ∷ 38 ∷ 91 ∷ 255 ∷ 255 ∷ 255 ∷ [], says (service 2 event_notification) (record { enrolment = Association (78 ∷ []); condition = Association (69 ∷ []); severity = 255; state = None; time = time.TimeOfDay (record { ms = 86399999; day = 65535 }) })) ∷
    [])
unfolding names specifications at_end bits_in integer_in first_bits part_at next_at required_part required_by chosen_by members_by elements_at optional_part optional_by defaulting integer_at definite_at identifier_at second_at third_at length_at long_length_at
notified = refl

-- ---- each form at its edges

-- DefineEventCondition-Request: a name of each scope; priority and severity at their edges and at their defaults; alarmSummaryReports; a variable by its name; the widest interval and 0
defines : Answers (read define_condition) (
    (160 ∷ 8 ∷ 161 ∷ 6 ∷ 26 ∷ 1 ∷ 68 ∷ 26 ∷ 1 ∷ 69 ∷ 129 ∷ 1 ∷ 0 ∷ [], says define_condition (record { name = Domain (68 ∷ []) (69 ∷ []); priority = 64; severity = 64; summary = None; monitored = None })) ∷
    (160 ∷ 3 ∷ 130 ∷ 1 ∷ 69 ∷ 129 ∷ 1 ∷ 0 ∷ [], says define_condition (record { name = Association (69 ∷ []); priority = 64; severity = 64; summary = None; monitored = None })) ∷
    (160 ∷ 3 ∷ 128 ∷ 1 ∷ 69 ∷ 129 ∷ 1 ∷ 0 ∷ 130 ∷ 1 ∷ 0 ∷ [], says define_condition (record { name = Vmd (69 ∷ []); priority = 0; severity = 64; summary = None; monitored = None })) ∷
    (160 ∷ 3 ∷ 128 ∷ 1 ∷ 69 ∷ 129 ∷ 1 ∷ 0 ∷ 130 ∷ 1 ∷ 127 ∷ [], says define_condition (record { name = Vmd (69 ∷ []); priority = 127; severity = 64; summary = None; monitored = None })) ∷
    (160 ∷ 3 ∷ 128 ∷ 1 ∷ 69 ∷ 129 ∷ 1 ∷ 0 ∷ 130 ∷ 1 ∷ 64 ∷ 131 ∷ 1 ∷ 64 ∷ [], says define_condition (record { name = Vmd (69 ∷ []); priority = 64; severity = 64; summary = None; monitored = None })) ∷
    (160 ∷ 3 ∷ 128 ∷ 1 ∷ 69 ∷ 129 ∷ 1 ∷ 0 ∷ 131 ∷ 1 ∷ 0 ∷ [], says define_condition (record { name = Vmd (69 ∷ []); priority = 64; severity = 0; summary = None; monitored = None })) ∷
    (160 ∷ 3 ∷ 128 ∷ 1 ∷ 69 ∷ 129 ∷ 1 ∷ 0 ∷ 131 ∷ 2 ∷ 0 ∷ 255 ∷ [], says define_condition (record { name = Vmd (69 ∷ []); priority = 64; severity = 255; summary = None; monitored = None })) ∷
    (160 ∷ 3 ∷ 128 ∷ 1 ∷ 69 ∷ 129 ∷ 1 ∷ 0 ∷ 132 ∷ 1 ∷ 255 ∷ [], says define_condition (record { name = Vmd (69 ∷ []); priority = 64; severity = 64; summary = Some true; monitored = None })) ∷
    (160 ∷ 3 ∷ 128 ∷ 1 ∷ 69 ∷ 129 ∷ 1 ∷ 0 ∷ 132 ∷ 1 ∷ 0 ∷ [], says define_condition (record { name = Vmd (69 ∷ []); priority = 64; severity = 64; summary = Some false; monitored = None })) ∷
    (160 ∷ 3 ∷ 128 ∷ 1 ∷ 77 ∷ 129 ∷ 1 ∷ 1 ∷ 130 ∷ 1 ∷ 5 ∷ 131 ∷ 1 ∷ 6 ∷ 132 ∷ 1 ∷ 1 ∷ 166 ∷ 10 ∷ 160 ∷ 8 ∷ 161 ∷ 6 ∷ 26 ∷ 1 ∷ 68 ∷ 26 ∷ 1 ∷ 84 ∷ 135 ∷ 5 ∷ 0 ∷ 255 ∷ 255 ∷ 255 ∷ 255 ∷ [], says define_condition (record { name = Vmd (77 ∷ []); priority = 5; severity = 6; summary = Some true; monitored = Some (record { variable = Name (Domain (68 ∷ []) (84 ∷ [])); interval = 4294967295 }) })) ∷
    (160 ∷ 3 ∷ 128 ∷ 1 ∷ 77 ∷ 129 ∷ 1 ∷ 1 ∷ 166 ∷ 5 ∷ 161 ∷ 3 ∷ 128 ∷ 1 ∷ 0 ∷ 135 ∷ 1 ∷ 0 ∷ [], says define_condition (record { name = Vmd (77 ∷ []); priority = 64; severity = 64; summary = None; monitored = Some (record { variable = (Address 0); interval = 0 }) })) ∷
    [])
unfolding names specifications at_end bits_in integer_in first_bits part_at next_at required_part required_by chosen_by members_by elements_at optional_part optional_by defaulting integer_at definite_at identifier_at second_at third_at length_at long_length_at
defines = refl

-- class 1 without an interval, without a variable, without either; class 0 with both, with one; another class, none; priority and severity beyond; [5]; a variable that isn't under its own tag; out of order, twice, behind
no_defines : Answers (read define_condition) (
    (160 ∷ 3 ∷ 128 ∷ 1 ∷ 77 ∷ 129 ∷ 1 ∷ 1 ∷ 166 ∷ 5 ∷ 161 ∷ 3 ∷ 128 ∷ 1 ∷ 0 ∷ [], Err fault.malformed) ∷
    (160 ∷ 3 ∷ 128 ∷ 1 ∷ 77 ∷ 129 ∷ 1 ∷ 1 ∷ 135 ∷ 1 ∷ 10 ∷ [], Err fault.malformed) ∷
    (160 ∷ 3 ∷ 128 ∷ 1 ∷ 77 ∷ 129 ∷ 1 ∷ 1 ∷ [], Err fault.malformed) ∷
    (160 ∷ 3 ∷ 128 ∷ 1 ∷ 77 ∷ 129 ∷ 1 ∷ 0 ∷ 166 ∷ 5 ∷ 161 ∷ 3 ∷ 128 ∷ 1 ∷ 0 ∷ 135 ∷ 1 ∷ 10 ∷ [], Err fault.malformed) ∷
    (160 ∷ 3 ∷ 128 ∷ 1 ∷ 77 ∷ 129 ∷ 1 ∷ 0 ∷ 166 ∷ 5 ∷ 161 ∷ 3 ∷ 128 ∷ 1 ∷ 0 ∷ [], Err fault.malformed) ∷
    (160 ∷ 3 ∷ 128 ∷ 1 ∷ 77 ∷ 129 ∷ 1 ∷ 0 ∷ 135 ∷ 1 ∷ 10 ∷ [], Err fault.malformed) ∷
    (160 ∷ 3 ∷ 128 ∷ 1 ∷ 69 ∷ 129 ∷ 1 ∷ 2 ∷ [], Err fault.malformed) ∷
    (160 ∷ 3 ∷ 128 ∷ 1 ∷ 69 ∷ 129 ∷ 1 ∷ 255 ∷ [], Err fault.malformed) ∷
    (160 ∷ 3 ∷ 128 ∷ 1 ∷ 69 ∷ [], Err fault.malformed) ∷
    (129 ∷ 1 ∷ 0 ∷ [], Err fault.malformed) ∷
    (160 ∷ 3 ∷ 128 ∷ 1 ∷ 69 ∷ 129 ∷ 1 ∷ 0 ∷ 130 ∷ 2 ∷ 0 ∷ 128 ∷ [], Err fault.malformed) ∷
    (160 ∷ 3 ∷ 128 ∷ 1 ∷ 69 ∷ 129 ∷ 1 ∷ 0 ∷ 130 ∷ 1 ∷ 255 ∷ [], Err fault.malformed) ∷
    (160 ∷ 3 ∷ 128 ∷ 1 ∷ 69 ∷ 129 ∷ 1 ∷ 0 ∷ 131 ∷ 2 ∷ 1 ∷ 0 ∷ [], Err fault.malformed) ∷
    (160 ∷ 3 ∷ 128 ∷ 1 ∷ 69 ∷ 129 ∷ 1 ∷ 0 ∷ 131 ∷ 1 ∷ 255 ∷ [], Err fault.malformed) ∷
    (160 ∷ 3 ∷ 128 ∷ 1 ∷ 69 ∷ 129 ∷ 1 ∷ 0 ∷ 133 ∷ 1 ∷ 0 ∷ [], Err fault.malformed) ∷
    (160 ∷ 3 ∷ 128 ∷ 1 ∷ 77 ∷ 129 ∷ 1 ∷ 1 ∷ 166 ∷ 3 ∷ 128 ∷ 1 ∷ 0 ∷ 135 ∷ 1 ∷ 10 ∷ [], Err fault.malformed) ∷
    (160 ∷ 3 ∷ 128 ∷ 1 ∷ 77 ∷ 129 ∷ 1 ∷ 1 ∷ 135 ∷ 1 ∷ 10 ∷ 166 ∷ 5 ∷ 161 ∷ 3 ∷ 128 ∷ 1 ∷ 0 ∷ [], Err fault.malformed) ∷
    (160 ∷ 3 ∷ 128 ∷ 1 ∷ 77 ∷ 129 ∷ 1 ∷ 1 ∷ 166 ∷ 5 ∷ 161 ∷ 3 ∷ 128 ∷ 1 ∷ 0 ∷ 135 ∷ 5 ∷ 1 ∷ 0 ∷ 0 ∷ 0 ∷ 0 ∷ [], Err fault.malformed) ∷
    (160 ∷ 3 ∷ 128 ∷ 1 ∷ 69 ∷ 129 ∷ 1 ∷ 0 ∷ 129 ∷ 1 ∷ 0 ∷ [], Err fault.malformed) ∷
    (128 ∷ 1 ∷ 69 ∷ 129 ∷ 1 ∷ 0 ∷ [], Err fault.malformed) ∷
    [])
unfolding names specifications at_end bits_in integer_in first_bits part_at next_at required_part required_by chosen_by members_by elements_at optional_part optional_by defaulting integer_at definite_at identifier_at second_at third_at length_at long_length_at
no_defines = refl

-- DeleteEventCondition-Request: names of each scope, one twice, none
deletions : Answers (read (choice delete_conditions)) (
    (160 ∷ 0 ∷ [], says (choice delete_conditions) ([])) ∷
    (160 ∷ 17 ∷ 128 ∷ 1 ∷ 69 ∷ 161 ∷ 6 ∷ 26 ∷ 1 ∷ 68 ∷ 26 ∷ 1 ∷ 69 ∷ 130 ∷ 1 ∷ 69 ∷ 128 ∷ 1 ∷ 69 ∷ [], says (choice delete_conditions) (Vmd (69 ∷ []) ∷ Domain (68 ∷ []) (69 ∷ []) ∷ Association (69 ∷ []) ∷ Vmd (69 ∷ []) ∷ [])) ∷
    (160 ∷ 3 ∷ 131 ∷ 1 ∷ 69 ∷ [], Err fault.malformed) ∷
    (128 ∷ 3 ∷ 128 ∷ 1 ∷ 69 ∷ [], Err fault.malformed) ∷
    (161 ∷ 3 ∷ 128 ∷ 1 ∷ 69 ∷ [], Err fault.malformed) ∷
    (129 ∷ 0 ∷ [], Err fault.malformed) ∷
    (160 ∷ 3 ∷ 128 ∷ 1 ∷ 69 ∷ 160 ∷ 3 ∷ 128 ∷ 1 ∷ 69 ∷ [], Err fault.malformed) ∷
    (128 ∷ 1 ∷ 69 ∷ [], Err fault.malformed) ∷
    ([], Err fault.malformed) ∷
    [])
unfolding names specifications at_end bits_in integer_in first_bits part_at next_at required_part required_by chosen_by members_by elements_at optional_part optional_by defaulting integer_at definite_at identifier_at second_at third_at length_at long_length_at
deletions = refl

-- EventTime: a moment, also one that no day has; a number; undefined; five octets, seven, a number beyond, NULL with contents, another alternative, two, none
times_told : Answers (read (choice event_times)) (
    (128 ∷ 6 ∷ 0 ∷ 0 ∷ 0 ∷ 1 ∷ 0 ∷ 2 ∷ [], says (choice event_times) (time.TimeOfDay (record { ms = 1; day = 2 }))) ∷
    (128 ∷ 6 ∷ 1 ∷ 2 ∷ 3 ∷ 4 ∷ 5 ∷ 6 ∷ [], says (choice event_times) (time.TimeOfDay (record { ms = 16909060; day = 1286 }))) ∷
    (128 ∷ 6 ∷ 255 ∷ 255 ∷ 255 ∷ 255 ∷ 255 ∷ 255 ∷ [], says (choice event_times) (time.TimeOfDay (record { ms = 4294967295; day = 65535 }))) ∷
    (129 ∷ 1 ∷ 0 ∷ [], says (choice event_times) (time.Sequence 0)) ∷
    (129 ∷ 5 ∷ 0 ∷ 255 ∷ 255 ∷ 255 ∷ 255 ∷ [], says (choice event_times) (time.Sequence 4294967295)) ∷
    (130 ∷ 0 ∷ [], says (choice event_times) (time.Undefined)) ∷
    (128 ∷ 5 ∷ 0 ∷ 0 ∷ 0 ∷ 0 ∷ 0 ∷ [], Err fault.malformed) ∷
    (128 ∷ 7 ∷ 0 ∷ 0 ∷ 0 ∷ 0 ∷ 0 ∷ 0 ∷ 0 ∷ [], Err fault.malformed) ∷
    (128 ∷ 0 ∷ [], Err fault.malformed) ∷
    (129 ∷ 1 ∷ 255 ∷ [], Err fault.malformed) ∷
    (130 ∷ 1 ∷ 0 ∷ [], Err fault.malformed) ∷
    (131 ∷ 0 ∷ [], Err fault.malformed) ∷
    (160 ∷ 6 ∷ 0 ∷ 0 ∷ 0 ∷ 0 ∷ 0 ∷ 0 ∷ [], Err fault.malformed) ∷
    (130 ∷ 0 ∷ 130 ∷ 0 ∷ [], Err fault.malformed) ∷
    ([], Err fault.malformed) ∷
    [])
unfolding names specifications at_end bits_in integer_in first_bits part_at next_at required_part required_by chosen_by members_by elements_at optional_part optional_by defaulting integer_at definite_at identifier_at second_at third_at length_at long_length_at
times_told = refl

-- ReportEventConditionStatus-Response: each state; a moment that isn't under its explicit tag, a state beyond, one component too few
statuses : Answers (read condition_status) (
    (128 ∷ 1 ∷ 0 ∷ 129 ∷ 1 ∷ 0 ∷ 130 ∷ 1 ∷ 0 ∷ 163 ∷ 2 ∷ 130 ∷ 0 ∷ 164 ∷ 2 ∷ 130 ∷ 0 ∷ [], says condition_status (record { state = Disabled; enrolments = 0; enabled = false; to_active = time.Undefined; to_idle = time.Undefined })) ∷
    (128 ∷ 1 ∷ 1 ∷ 129 ∷ 2 ∷ 4 ∷ 0 ∷ 130 ∷ 1 ∷ 255 ∷ 163 ∷ 2 ∷ 130 ∷ 0 ∷ 164 ∷ 8 ∷ 128 ∷ 6 ∷ 0 ∷ 0 ∷ 0 ∷ 20 ∷ 0 ∷ 1 ∷ [], says condition_status (record { state = Idle; enrolments = 1024; enabled = true; to_active = time.Undefined; to_idle = time.TimeOfDay (record { ms = 20; day = 1 }) })) ∷
    (128 ∷ 1 ∷ 3 ∷ 129 ∷ 1 ∷ 0 ∷ 130 ∷ 1 ∷ 0 ∷ 163 ∷ 2 ∷ 130 ∷ 0 ∷ 164 ∷ 2 ∷ 130 ∷ 0 ∷ [], Err fault.malformed) ∷
    (128 ∷ 1 ∷ 0 ∷ 129 ∷ 1 ∷ 0 ∷ 130 ∷ 1 ∷ 0 ∷ 131 ∷ 6 ∷ 0 ∷ 0 ∷ 0 ∷ 0 ∷ 0 ∷ 0 ∷ 164 ∷ 2 ∷ 130 ∷ 0 ∷ [], Err fault.malformed) ∷
    (128 ∷ 1 ∷ 0 ∷ 129 ∷ 1 ∷ 0 ∷ 130 ∷ 1 ∷ 0 ∷ 163 ∷ 2 ∷ 130 ∷ 0 ∷ [], Err fault.malformed) ∷
    [])
unfolding names specifications at_end bits_in integer_in first_bits part_at next_at required_part required_by chosen_by members_by elements_at optional_part optional_by defaulting integer_at definite_at identifier_at second_at third_at length_at long_length_at
statuses = refl

-- AlterEventConditionMonitoring-Request: a name alone, and all components
alters : Answers (read alter_monitoring) (
    (160 ∷ 3 ∷ 128 ∷ 1 ∷ 69 ∷ [], says alter_monitoring (record { name = Vmd (69 ∷ []); enabled = None; priority = None; summary = None; interval = None })) ∷
    (160 ∷ 3 ∷ 128 ∷ 1 ∷ 69 ∷ 129 ∷ 1 ∷ 0 ∷ 130 ∷ 1 ∷ 0 ∷ 131 ∷ 1 ∷ 255 ∷ 132 ∷ 1 ∷ 0 ∷ [], says alter_monitoring (record { name = Vmd (69 ∷ []); enabled = Some false; priority = Some 0; summary = Some true; interval = Some 0 })) ∷
    (160 ∷ 3 ∷ 128 ∷ 1 ∷ 69 ∷ 132 ∷ 5 ∷ 0 ∷ 255 ∷ 255 ∷ 255 ∷ 255 ∷ [], says alter_monitoring (record { name = Vmd (69 ∷ []); enabled = None; priority = None; summary = None; interval = Some 4294967295 })) ∷
    (160 ∷ 3 ∷ 128 ∷ 1 ∷ 69 ∷ 130 ∷ 2 ∷ 0 ∷ 128 ∷ [], Err fault.malformed) ∷
    (160 ∷ 3 ∷ 128 ∷ 1 ∷ 69 ∷ 133 ∷ 1 ∷ 0 ∷ [], Err fault.malformed) ∷
    (160 ∷ 3 ∷ 128 ∷ 1 ∷ 69 ∷ 132 ∷ 1 ∷ 10 ∷ 129 ∷ 1 ∷ 255 ∷ [], Err fault.malformed) ∷
    (129 ∷ 1 ∷ 255 ∷ [], Err fault.malformed) ∷
    [])
unfolding names specifications at_end bits_in integer_in first_bits part_at next_at required_part required_by chosen_by members_by elements_at optional_part optional_by defaulting integer_at definite_at identifier_at second_at third_at length_at long_length_at
alters = refl

-- TriggerEvent-Request: a priority beyond, another component, a name that isn't under its tag
triggers : Answers (read trigger_event) (
    (160 ∷ 3 ∷ 128 ∷ 1 ∷ 69 ∷ 129 ∷ 1 ∷ 0 ∷ [], says trigger_event (record { name = Vmd (69 ∷ []); priority = Some 0 })) ∷
    (160 ∷ 3 ∷ 128 ∷ 1 ∷ 69 ∷ 129 ∷ 2 ∷ 0 ∷ 128 ∷ [], Err fault.malformed) ∷
    (160 ∷ 3 ∷ 128 ∷ 1 ∷ 69 ∷ 130 ∷ 1 ∷ 0 ∷ [], Err fault.malformed) ∷
    (128 ∷ 1 ∷ 69 ∷ [], Err fault.malformed) ∷
    [])
unfolding names specifications at_end bits_in integer_in first_bits part_at next_at required_part required_by chosen_by members_by elements_at optional_part optional_by defaulting integer_at definite_at identifier_at second_at third_at length_at long_length_at
triggers = refl

-- DefineEventEnrollment-Request: no bits, the first, any-to-deleted, all seven, the eighth and a second octet, six bits of which the last one isn't sent, unused bits that are set
enrolls : Answers (read define_enrollment) (
    (160 ∷ 3 ∷ 128 ∷ 1 ∷ 78 ∷ 161 ∷ 3 ∷ 128 ∷ 1 ∷ 69 ∷ 130 ∷ 1 ∷ 0 ∷ 131 ∷ 1 ∷ 0 ∷ [], says define_enrollment (record { name = Vmd (78 ∷ []); condition = Vmd (69 ∷ []); transitions = record { octets = 0 ∷ [] }; rule = 0 })) ∷
    (160 ∷ 3 ∷ 128 ∷ 1 ∷ 78 ∷ 161 ∷ 3 ∷ 128 ∷ 1 ∷ 69 ∷ 130 ∷ 2 ∷ 7 ∷ 128 ∷ 131 ∷ 1 ∷ 0 ∷ [], says define_enrollment (record { name = Vmd (78 ∷ []); condition = Vmd (69 ∷ []); transitions = record { octets = 128 ∷ [] }; rule = 0 })) ∷
    (160 ∷ 3 ∷ 128 ∷ 1 ∷ 78 ∷ 161 ∷ 3 ∷ 128 ∷ 1 ∷ 69 ∷ 130 ∷ 2 ∷ 1 ∷ 2 ∷ 131 ∷ 1 ∷ 0 ∷ [], says define_enrollment (record { name = Vmd (78 ∷ []); condition = Vmd (69 ∷ []); transitions = record { octets = 2 ∷ [] }; rule = 0 })) ∷
    (160 ∷ 3 ∷ 128 ∷ 1 ∷ 78 ∷ 161 ∷ 3 ∷ 128 ∷ 1 ∷ 69 ∷ 130 ∷ 2 ∷ 1 ∷ 254 ∷ 131 ∷ 1 ∷ 0 ∷ [], says define_enrollment (record { name = Vmd (78 ∷ []); condition = Vmd (69 ∷ []); transitions = record { octets = 254 ∷ [] }; rule = 0 })) ∷
    (160 ∷ 3 ∷ 128 ∷ 1 ∷ 78 ∷ 161 ∷ 3 ∷ 128 ∷ 1 ∷ 69 ∷ 130 ∷ 2 ∷ 0 ∷ 255 ∷ 131 ∷ 1 ∷ 0 ∷ [], says define_enrollment (record { name = Vmd (78 ∷ []); condition = Vmd (69 ∷ []); transitions = record { octets = 254 ∷ [] }; rule = 0 })) ∷
    (160 ∷ 3 ∷ 128 ∷ 1 ∷ 78 ∷ 161 ∷ 3 ∷ 128 ∷ 1 ∷ 69 ∷ 130 ∷ 3 ∷ 0 ∷ 1 ∷ 255 ∷ 131 ∷ 1 ∷ 0 ∷ [], says define_enrollment (record { name = Vmd (78 ∷ []); condition = Vmd (69 ∷ []); transitions = record { octets = 0 ∷ [] }; rule = 0 })) ∷
    (160 ∷ 3 ∷ 128 ∷ 1 ∷ 78 ∷ 161 ∷ 3 ∷ 128 ∷ 1 ∷ 69 ∷ 130 ∷ 2 ∷ 3 ∷ 255 ∷ 131 ∷ 1 ∷ 0 ∷ [], says define_enrollment (record { name = Vmd (78 ∷ []); condition = Vmd (69 ∷ []); transitions = record { octets = 248 ∷ [] }; rule = 0 })) ∷
    (160 ∷ 3 ∷ 128 ∷ 1 ∷ 78 ∷ 161 ∷ 3 ∷ 128 ∷ 1 ∷ 69 ∷ 130 ∷ 2 ∷ 1 ∷ 5 ∷ 131 ∷ 2 ∷ 0 ∷ 0 ∷ [], says define_enrollment (record { name = Vmd (78 ∷ []); condition = Vmd (69 ∷ []); transitions = record { octets = 4 ∷ [] }; rule = 0 })) ∷
    [])
unfolding names specifications at_end bits_in integer_in first_bits part_at next_at required_part required_by chosen_by members_by elements_at optional_part optional_by defaulting integer_at definite_at identifier_at second_at third_at length_at long_length_at
enrolls = refl

-- rules 1 to 4, and none; no transitions; unused bits of no octet, eight of them; a condition that isn't under an explicit tag, or isn't there
no_enrolls : Answers (read define_enrollment) (
    (160 ∷ 3 ∷ 128 ∷ 1 ∷ 78 ∷ 161 ∷ 3 ∷ 128 ∷ 1 ∷ 69 ∷ 130 ∷ 2 ∷ 1 ∷ 4 ∷ 131 ∷ 1 ∷ 1 ∷ [], Err fault.malformed) ∷
    (160 ∷ 3 ∷ 128 ∷ 1 ∷ 78 ∷ 161 ∷ 3 ∷ 128 ∷ 1 ∷ 69 ∷ 130 ∷ 2 ∷ 1 ∷ 4 ∷ 131 ∷ 1 ∷ 2 ∷ [], Err fault.malformed) ∷
    (160 ∷ 3 ∷ 128 ∷ 1 ∷ 78 ∷ 161 ∷ 3 ∷ 128 ∷ 1 ∷ 69 ∷ 130 ∷ 2 ∷ 1 ∷ 4 ∷ 131 ∷ 1 ∷ 3 ∷ [], Err fault.malformed) ∷
    (160 ∷ 3 ∷ 128 ∷ 1 ∷ 78 ∷ 161 ∷ 3 ∷ 128 ∷ 1 ∷ 69 ∷ 130 ∷ 2 ∷ 1 ∷ 4 ∷ 131 ∷ 1 ∷ 4 ∷ [], Err fault.malformed) ∷
    (160 ∷ 3 ∷ 128 ∷ 1 ∷ 78 ∷ 161 ∷ 3 ∷ 128 ∷ 1 ∷ 69 ∷ 130 ∷ 2 ∷ 1 ∷ 4 ∷ 131 ∷ 1 ∷ 255 ∷ [], Err fault.malformed) ∷
    (160 ∷ 3 ∷ 128 ∷ 1 ∷ 78 ∷ 161 ∷ 3 ∷ 128 ∷ 1 ∷ 69 ∷ 130 ∷ 2 ∷ 1 ∷ 4 ∷ [], Err fault.malformed) ∷
    (160 ∷ 3 ∷ 128 ∷ 1 ∷ 78 ∷ 161 ∷ 3 ∷ 128 ∷ 1 ∷ 69 ∷ 131 ∷ 1 ∷ 0 ∷ [], Err fault.malformed) ∷
    (160 ∷ 3 ∷ 128 ∷ 1 ∷ 78 ∷ 161 ∷ 3 ∷ 128 ∷ 1 ∷ 69 ∷ 130 ∷ 0 ∷ 131 ∷ 1 ∷ 0 ∷ [], Err fault.malformed) ∷
    (160 ∷ 3 ∷ 128 ∷ 1 ∷ 78 ∷ 161 ∷ 3 ∷ 128 ∷ 1 ∷ 69 ∷ 130 ∷ 1 ∷ 1 ∷ 131 ∷ 1 ∷ 0 ∷ [], Err fault.malformed) ∷
    (160 ∷ 3 ∷ 128 ∷ 1 ∷ 78 ∷ 161 ∷ 3 ∷ 128 ∷ 1 ∷ 69 ∷ 130 ∷ 2 ∷ 8 ∷ 4 ∷ 131 ∷ 1 ∷ 0 ∷ [], Err fault.malformed) ∷
    (160 ∷ 3 ∷ 128 ∷ 1 ∷ 78 ∷ 129 ∷ 1 ∷ 69 ∷ 130 ∷ 2 ∷ 1 ∷ 4 ∷ 131 ∷ 1 ∷ 0 ∷ [], Err fault.malformed) ∷
    (160 ∷ 3 ∷ 128 ∷ 1 ∷ 78 ∷ 130 ∷ 2 ∷ 1 ∷ 4 ∷ 131 ∷ 1 ∷ 0 ∷ [], Err fault.malformed) ∷
    [])
unfolding names specifications at_end bits_in integer_in first_bits part_at next_at required_part required_by chosen_by members_by elements_at optional_part optional_by defaulting integer_at definite_at identifier_at second_at third_at length_at long_length_at
no_enrolls = refl

-- DeleteEventEnrollment-Request: names of each scope, none; a condition of a domain; another alternative, both, a condition that isn't under an explicit tag
leavings : Answers (read (choice delete_enrollments)) (
    (160 ∷ 0 ∷ [], says (choice delete_enrollments) (Names [])) ∷
    (160 ∷ 6 ∷ 128 ∷ 1 ∷ 78 ∷ 130 ∷ 1 ∷ 78 ∷ [], says (choice delete_enrollments) (Names (Vmd (78 ∷ []) ∷ Association (78 ∷ []) ∷ []))) ∷
    (161 ∷ 8 ∷ 161 ∷ 6 ∷ 26 ∷ 1 ∷ 68 ∷ 26 ∷ 1 ∷ 69 ∷ [], says (choice delete_enrollments) (Condition (Domain (68 ∷ []) (69 ∷ [])))) ∷
    (162 ∷ 3 ∷ 128 ∷ 1 ∷ 69 ∷ [], Err fault.malformed) ∷
    (160 ∷ 0 ∷ 161 ∷ 3 ∷ 128 ∷ 1 ∷ 69 ∷ [], Err fault.malformed) ∷
    (129 ∷ 1 ∷ 69 ∷ [], Err fault.malformed) ∷
    (161 ∷ 0 ∷ [], Err fault.malformed) ∷
    ([], Err fault.malformed) ∷
    [])
unfolding names specifications at_end bits_in integer_in first_bits part_at next_at required_part required_by chosen_by members_by elements_at optional_part optional_by defaulting integer_at definite_at identifier_at second_at third_at length_at long_length_at
leavings = refl

-- EventNotification: no severity, no moment, a moment that isn't under an explicit tag
no_notes : Answers (read event_notification) (
    (160 ∷ 3 ∷ 128 ∷ 1 ∷ 78 ∷ 161 ∷ 3 ∷ 128 ∷ 1 ∷ 69 ∷ 131 ∷ 1 ∷ 1 ∷ 164 ∷ 8 ∷ 128 ∷ 6 ∷ 0 ∷ 0 ∷ 0 ∷ 0 ∷ 0 ∷ 0 ∷ [], Err fault.malformed) ∷
    (160 ∷ 3 ∷ 128 ∷ 1 ∷ 78 ∷ 161 ∷ 3 ∷ 128 ∷ 1 ∷ 69 ∷ 130 ∷ 1 ∷ 64 ∷ 131 ∷ 1 ∷ 1 ∷ [], Err fault.malformed) ∷
    (160 ∷ 3 ∷ 128 ∷ 1 ∷ 78 ∷ 161 ∷ 3 ∷ 128 ∷ 1 ∷ 69 ∷ 130 ∷ 1 ∷ 64 ∷ 131 ∷ 1 ∷ 1 ∷ 132 ∷ 6 ∷ 0 ∷ 0 ∷ 0 ∷ 0 ∷ 0 ∷ 0 ∷ [], Err fault.malformed) ∷
    [])
unfolding names specifications at_end bits_in integer_in first_bits part_at next_at required_part required_by chosen_by members_by elements_at optional_part optional_by defaulting integer_at definite_at identifier_at second_at third_at length_at long_length_at
no_notes = refl

-- ---- what is spelled

-- what is 64 is left out
defined_written : Answers (written (service 47 define_condition)) (
    (record { name = Vmd (69 ∷ []); priority = 64; severity = 64; summary = None; monitored = None }, 191 ∷ 47 ∷ 8 ∷ 160 ∷ 3 ∷ 128 ∷ 1 ∷ 69 ∷ 129 ∷ 1 ∷ 0 ∷ []) ∷
    (record { name = Vmd (77 ∷ []); priority = 64; severity = 64; summary = None; monitored = Some (record { variable = (Address 0); interval = 10 }) }, 191 ∷ 47 ∷ 18 ∷ 160 ∷ 3 ∷ 128 ∷ 1 ∷ 77 ∷ 129 ∷ 1 ∷ 1 ∷ 166 ∷ 5 ∷ 161 ∷ 3 ∷ 128 ∷ 1 ∷ 0 ∷ 135 ∷ 1 ∷ 10 ∷ []) ∷
    (record { name = Vmd (77 ∷ []); priority = 5; severity = 6; summary = Some true; monitored = Some (record { variable = Name (Domain (68 ∷ []) (84 ∷ [])); interval = 4294967295 }) }, 191 ∷ 47 ∷ 36 ∷ 160 ∷ 3 ∷ 128 ∷ 1 ∷ 77 ∷ 129 ∷ 1 ∷ 1 ∷ 130 ∷ 1 ∷ 5 ∷ 131 ∷ 1 ∷ 6 ∷ 132 ∷ 1 ∷ 255 ∷ 166 ∷ 10 ∷ 160 ∷ 8 ∷ 161 ∷ 6 ∷ 26 ∷ 1 ∷ 68 ∷ 26 ∷ 1 ∷ 84 ∷ 135 ∷ 5 ∷ 0 ∷ 255 ∷ 255 ∷ 255 ∷ 255 ∷ []) ∷
    [])
unfolding names specifications element_octets identifier_octets length_octets digits
defined_written = refl

null_written : Answers (written (service 47 null)) (
    (tt, 159 ∷ 47 ∷ 0 ∷ []) ∷
    [])
unfolding names specifications element_octets identifier_octets length_octets digits
null_written = refl

deleted_written : Answers (written (service 48 (choice delete_conditions))) (
    (Vmd (69 ∷ []) ∷ [], 191 ∷ 48 ∷ 5 ∷ 160 ∷ 3 ∷ 128 ∷ 1 ∷ 69 ∷ []) ∷
    ([], 191 ∷ 48 ∷ 2 ∷ 160 ∷ 0 ∷ []) ∷
    [])
unfolding names specifications element_octets identifier_octets length_octets digits
deleted_written = refl

not_deleted_written : Answers (written (service 48 unsigned32)) (
    (1, 159 ∷ 48 ∷ 1 ∷ 1 ∷ []) ∷
    (65000, 159 ∷ 48 ∷ 3 ∷ 0 ∷ 253 ∷ 232 ∷ []) ∷
    [])
unfolding names specifications element_octets identifier_octets length_octets digits
not_deleted_written = refl

reported_written : Answers (written (service 50 condition_status)) (
    (record { state = Active; enrolments = 0; enabled = true; to_active = time.TimeOfDay (record { ms = 0; day = 0 }); to_idle = time.Undefined }, 191 ∷ 50 ∷ 23 ∷ 128 ∷ 1 ∷ 2 ∷ 129 ∷ 1 ∷ 0 ∷ 130 ∷ 1 ∷ 255 ∷ 163 ∷ 8 ∷ 128 ∷ 6 ∷ 0 ∷ 0 ∷ 0 ∷ 0 ∷ 0 ∷ 0 ∷ 164 ∷ 2 ∷ 130 ∷ 0 ∷ []) ∷
    [])
unfolding names specifications element_octets identifier_octets length_octets digits
reported_written = refl

altered_written : Answers (written (service 51 alter_monitoring)) (
    (record { name = Vmd (77 ∷ []); enabled = Some true; priority = None; summary = None; interval = None }, 191 ∷ 51 ∷ 8 ∷ 160 ∷ 3 ∷ 128 ∷ 1 ∷ 77 ∷ 129 ∷ 1 ∷ 255 ∷ []) ∷
    (record { name = Vmd (69 ∷ []); enabled = Some false; priority = Some 0; summary = Some true; interval = Some 10 }, 191 ∷ 51 ∷ 17 ∷ 160 ∷ 3 ∷ 128 ∷ 1 ∷ 69 ∷ 129 ∷ 1 ∷ 0 ∷ 130 ∷ 1 ∷ 0 ∷ 131 ∷ 1 ∷ 255 ∷ 132 ∷ 1 ∷ 10 ∷ []) ∷
    [])
unfolding names specifications element_octets identifier_octets length_octets digits
altered_written = refl

triggered_written : Answers (written (service 52 trigger_event)) (
    (record { name = Vmd (69 ∷ []); priority = None }, 191 ∷ 52 ∷ 5 ∷ 160 ∷ 3 ∷ 128 ∷ 1 ∷ 69 ∷ []) ∷
    (record { name = Vmd (69 ∷ []); priority = Some 127 }, 191 ∷ 52 ∷ 8 ∷ 160 ∷ 3 ∷ 128 ∷ 1 ∷ 69 ∷ 129 ∷ 1 ∷ 127 ∷ []) ∷
    [])
unfolding names specifications element_octets identifier_octets length_octets digits
triggered_written = refl

enrolled_written : Answers (written (service 57 define_enrollment)) (
    (record { name = Vmd (78 ∷ []); condition = Vmd (69 ∷ []); transitions = record { octets = 4 ∷ [] }; rule = 0 }, 191 ∷ 57 ∷ 17 ∷ 160 ∷ 3 ∷ 128 ∷ 1 ∷ 78 ∷ 161 ∷ 3 ∷ 128 ∷ 1 ∷ 69 ∷ 130 ∷ 2 ∷ 1 ∷ 4 ∷ 131 ∷ 1 ∷ 0 ∷ []) ∷
    [])
unfolding names specifications element_octets identifier_octets length_octets digits
enrolled_written = refl

left_written : Answers (written (service 58 (choice delete_enrollments))) (
    (Names (Vmd (78 ∷ []) ∷ []), 191 ∷ 58 ∷ 5 ∷ 160 ∷ 3 ∷ 128 ∷ 1 ∷ 78 ∷ []) ∷
    (Condition (Vmd (69 ∷ [])), 191 ∷ 58 ∷ 5 ∷ 161 ∷ 3 ∷ 128 ∷ 1 ∷ 69 ∷ []) ∷
    [])
unfolding names specifications element_octets identifier_octets length_octets digits
left_written = refl

notified_written : Answers (written (service 3 (explicit (context 2 event_notification)))) (
    (record { enrolment = Association (78 ∷ []); condition = Vmd (77 ∷ []); severity = 64; state = Some Idle; time = time.TimeOfDay (record { ms = 0; day = 0 }) }, 163 ∷ 28 ∷ 162 ∷ 26 ∷ 160 ∷ 3 ∷ 130 ∷ 1 ∷ 78 ∷ 161 ∷ 3 ∷ 128 ∷ 1 ∷ 77 ∷ 130 ∷ 1 ∷ 64 ∷ 131 ∷ 1 ∷ 1 ∷ 164 ∷ 8 ∷ 128 ∷ 6 ∷ 0 ∷ 0 ∷ 0 ∷ 0 ∷ 0 ∷ 0 ∷ []) ∷
    (record { enrolment = Vmd (78 ∷ []); condition = Vmd (69 ∷ []); severity = 64; state = Some Active; time = time.TimeOfDay (record { ms = 20; day = 0 }) }, 163 ∷ 28 ∷ 162 ∷ 26 ∷ 160 ∷ 3 ∷ 128 ∷ 1 ∷ 78 ∷ 161 ∷ 3 ∷ 128 ∷ 1 ∷ 69 ∷ 130 ∷ 1 ∷ 64 ∷ 131 ∷ 1 ∷ 2 ∷ 164 ∷ 8 ∷ 128 ∷ 6 ∷ 0 ∷ 0 ∷ 0 ∷ 20 ∷ 0 ∷ 0 ∷ []) ∷
    (record { enrolment = Association (78 ∷ []); condition = Association (69 ∷ []); severity = 255; state = None; time = time.TimeOfDay (record { ms = 86399999; day = 65535 }) }, 163 ∷ 26 ∷ 162 ∷ 24 ∷ 160 ∷ 3 ∷ 130 ∷ 1 ∷ 78 ∷ 161 ∷ 3 ∷ 130 ∷ 1 ∷ 69 ∷ 130 ∷ 2 ∷ 0 ∷ 255 ∷ 164 ∷ 8 ∷ 128 ∷ 6 ∷ 5 ∷ 38 ∷ 91 ∷ 255 ∷ 255 ∷ 255 ∷ []) ∷
    [])
unfolding names specifications element_octets identifier_octets length_octets digits
notified_written = refl

times_written : Answers (written (choice event_times)) (
    (time.TimeOfDay (record { ms = 16909060; day = 1286 }), 128 ∷ 6 ∷ 1 ∷ 2 ∷ 3 ∷ 4 ∷ 5 ∷ 6 ∷ []) ∷
    (time.Sequence 7, 129 ∷ 1 ∷ 7 ∷ []) ∷
    (time.Undefined, 130 ∷ 0 ∷ []) ∷
    [])
unfolding names specifications element_octets identifier_octets length_octets digits
times_written = refl
