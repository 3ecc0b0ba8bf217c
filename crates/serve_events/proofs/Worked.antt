-- Worked examples of what requests tell of transitions, and of what they ask.
use Rattle.std.specs.Prelude.{◌≡◌, ℕ, ◌==◌, Bool, true, false, List, [], ◌∷◌, map, None, Some, if◌then◌else◌}
use Rattle.std.proofs.Common.{refl}
use Rattle.mms_types.specs.declared.condition.ConditionState.TheVariants.{Disabled, Idle, Active}
use Rattle.mms_types.specs.declared.condition.EventNotification.{EventNotification}
use Rattle.mms_types.specs.declared.condition.EventTime.TheVariants as event
use Rattle.mms_types.specs.declared.condition.Turned.{Turned}
use Rattle.mms_types.specs.declared.moment.Moment.{Moment}
use Rattle.mms_types.specs.declared.object_name.ObjectName.{ObjectName}
use Rattle.mms_types.specs.declared.object_name.ObjectName.TheVariants as name
use Rattle.mms_types.specs.Order.{key_of}
use Rattle.object_names.specs.Deletion.{missing}
use Rattle.event_cond.specs.declared.condition.Condition.{Condition}
use Rattle.event_cond.specs.declared.condition.ConditionClass.{ConditionClass}
use Rattle.event_cond.specs.declared.condition.ConditionClass.TheVariants.{NetworkTriggered, Monitored}
use Rattle.event_enrol.specs.Enrolments.{notices}
use Rattle.event_enrol.specs.declared.enrolment.Enrolment.{Enrolment}
use Rattle.serve_events.specs.Events.{after_delete, alter_turns, delete_turns, first_watched, trigger_turns}
use Rattle.serve_events.specs.Told.{clients_of, notification}
use Rattle.serve_events.specs.declared.tables.EventTables.{EventTables}

-- a function answers each row of a table with its second column
abbrev Answers : {A B : Type 0} → (A → B) → List (A × B) → Type 0
Answers f table = map (λ row. f row.0) table ≡ map (λ row. row.1) table

abbrev at : ℕ → Moment
at ms = record { 0 = ms }

-- the names E, F, M and X of the device
abbrev e : ObjectName
e = name.Vmd (69 ∷ [])

abbrev f : ObjectName
f = name.Vmd (70 ∷ [])

abbrev m : ObjectName
m = name.Vmd (77 ∷ [])

abbrev x : ObjectName
x = name.Vmd (88 ∷ [])

abbrev of_class : ConditionClass → Condition
of_class class = record { priority = 64; severity = 64; class = class; to_active = None; to_idle = None }

-- M watches cell 3, and is disabled
abbrev monitored : ConditionClass
monitored = Monitored (record { cell = 3; interval = 10; defined = at 0; evaluation = None })

-- who enrolled so on a condition, for those transitions
abbrev enrolled : ℕ → ObjectName → ℕ → Enrolment
enrolled client condition octet = record { client = client; condition = key_of client condition; transitions = record { octets = octet ∷ [] }; rule = 0 }

-- Z and B of client 1, and A of the association of client 2, are told that E becomes active, and idle; N of client 2 is told that M comes to any state, or goes
abbrev tables : EventTables
tables = record {
  conditions = (key_of 1 e, of_class NetworkTriggered) ∷ (key_of 1 m, of_class monitored) ∷ (key_of 1 f, of_class NetworkTriggered) ∷ [];
  enrolments =
      (key_of 1 (name.Vmd (90 ∷ [])), enrolled 1 e 0x14)
      ∷ (key_of 2 (name.Association (65 ∷ [])), enrolled 2 e 0x14)
      ∷ (key_of 1 (name.Vmd (66 ∷ [])), enrolled 1 e 0x14)
      ∷ (key_of 2 (name.Vmd (78 ∷ [])), enrolled 2 m 0xFE)
      ∷ [];
}

abbrev told : ObjectName → ObjectName → ℕ → EventNotification
told enrolment condition state = record {
  enrolment = enrolment;
  condition = condition;
  severity = 64;
  state = Some (if state == 2 then Active else if state == 1 then Idle else Disabled);
  time = event.TimeOfDay (record { ms = 20; day = 0 });
}

-- what is told to whom, transition by transition
abbrev all_told : List Turned → List (List (ℕ × EventNotification))
all_told turns = map (λ turn. map (λ n. (n.client, notification turn n)) (notices turn tables.enrolments)) turns

-- both transitions of a trigger are told to the enrollments in the order in which they were defined, whoever triggers it, the second behind the first
trigger_told : all_told (trigger_turns 3 (at 20) e tables) ≡
    ((1, told (name.Vmd (90 ∷ [])) e 2) ∷ (2, told (name.Association (65 ∷ [])) e 2) ∷ (1, told (name.Vmd (66 ∷ [])) e 2) ∷ [])
    ∷ ((1, told (name.Vmd (90 ∷ [])) e 1) ∷ (2, told (name.Association (65 ∷ [])) e 1) ∷ (1, told (name.Vmd (66 ∷ [])) e 1) ∷ [])
    ∷ []
trigger_told = refl

trigger_clients : clients_of (trigger_turns 3 (at 20) e tables) tables.enrolments ≡ 1 ∷ 2 ∷ 1 ∷ 1 ∷ 2 ∷ 1 ∷ []
trigger_clients = refl

-- one that comes to be enabled is told to be what its cell says
enabled_told : Answers (λ (says : Bool). all_told (alter_turns 1 (at 20) says (record { name = m; enabled = Some true; priority = None; summary = None; interval = None }) tables)) (
    (true, ((2, told (name.Vmd (78 ∷ [])) m 2) ∷ []) ∷ []) ∷
    (false, ((2, told (name.Vmd (78 ∷ [])) m 1) ∷ []) ∷ []) ∷
    [])
enabled_told = refl

-- nothing is told of one that stays disabled
unchanged_told : Answers (λ (says : Bool). alter_turns 1 (at 20) says (record { name = m; enabled = Some false; priority = None; summary = None; interval = None }) tables) (
    (true, []) ∷
    (false, []) ∷
    [])
unchanged_told = refl

-- a deletion tells of conditions in the order of their first mention, each once, and counts a missing one once
deleted_told : map (λ turn. turn.condition) (delete_turns 1 (at 20) (f ∷ x ∷ e ∷ f ∷ x ∷ []) tables) ≡ key_of 1 f ∷ key_of 1 e ∷ []
deleted_told = refl

deleted_missing : missing 1 (f ∷ x ∷ e ∷ f ∷ x ∷ []) tables.conditions ≡ 1
deleted_missing = refl

-- the enrollments on them go, of all clients
deleted_left : map (λ row. row.0) (after_delete 1 (at 20) (f ∷ x ∷ e ∷ f ∷ x ∷ []) tables).enrolments ≡ key_of 2 (name.Vmd (78 ∷ [])) ∷ []
deleted_left = refl

-- a deletion is told without a state
state_of_deletion : all_told (delete_turns 1 (at 20) (m ∷ []) tables) ≡
    ((2, record { enrolment = name.Vmd (78 ∷ []); condition = m; severity = 64; state = None; time = event.TimeOfDay (record { ms = 20; day = 0 }) }) ∷ []) ∷ []
state_of_deletion = refl

-- the cell is asked for that a monitored condition watches, where one is named that is there
asked_for : Answers (first_watched 1 tables.conditions) (
    (e ∷ [], None) ∷
    (m ∷ [], Some 3) ∷
    (x ∷ e ∷ m ∷ f ∷ [], Some 3) ∷
    (x ∷ [], None) ∷
    ([], None) ∷
    [])
asked_for = refl
