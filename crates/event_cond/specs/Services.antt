-- The services for event conditions: why each is refused, what it tells, and the conditions after it (ISO 9506-1 and ISO 9506-2, event management).
use Rattle.std.specs.Prelude.{ℕ, ◌/◌, ◌%◌, nat_le, max, Bool, true, false, not, ◌&&◌, ◌||◌, List, [], ◌∷◌, ◌++◌, Option, None, Some, is_none, is_some, length, option_and_then, if◌then◌else◌}
use Rattle.std.specs.Option.{option_map, option_map_or, unwrap_or}
use Rattle.mms_types.specs.Errors.{first_of, capability_unavailable, object_non_existent, object_state_conflict, object_undefined, type_inconsistent}
use Rattle.mms_types.specs.Order.{key_of}
use Rattle.mms_types.specs.declared.condition.AlterEventConditionMonitoring.{AlterEventConditionMonitoring}
use Rattle.mms_types.specs.declared.condition.CellFact.{CellFact}
use Rattle.mms_types.specs.declared.condition.CellFact.TheVariants.{Missing, Other, Found}
use Rattle.mms_types.specs.declared.condition.ConditionState.TheVariants.{Idle, Active}
use Rattle.mms_types.specs.declared.condition.ConditionStatus.{ConditionStatus}
use Rattle.mms_types.specs.declared.condition.DefineEventCondition.{DefineEventCondition}
use Rattle.mms_types.specs.declared.condition.EventTime.{EventTime}
use Rattle.mms_types.specs.declared.condition.EventTime.TheVariants as event
use Rattle.mms_types.specs.declared.condition.Monitored.{Monitored as Watched}
use Rattle.mms_types.specs.declared.condition.TimeOfDay.{TimeOfDay}
use Rattle.mms_types.specs.declared.condition.Turned.{Turned}
use Rattle.mms_types.specs.declared.key.Key.{Key}
use Rattle.mms_types.specs.declared.moment.Moment.{Moment}
use Rattle.mms_types.specs.declared.object_name.ObjectName.{ObjectName}
use Rattle.mms_types.specs.declared.service_error.ServiceError.{ServiceError}
use Rattle.object_names.specs.NewName.{new_name}
use Rattle.event_cond.specs.Conditions.{Rows, changed, condition, move_told, moved, state_of, turn}
use Rattle.event_cond.specs.Multiples.{least_multiple}
use Rattle.event_cond.specs.Transitions.{active_to_idle, idle_to_active}
use Rattle.event_cond.specs.declared.condition.Condition.{Condition}
use Rattle.event_cond.specs.declared.condition.ConditionClass.{ConditionClass}
use Rattle.event_cond.specs.declared.condition.ConditionClass.TheVariants.{NetworkTriggered, Monitored}
use Rattle.event_cond.specs.declared.condition.Evaluation.{Evaluation}
use Rattle.event_cond.specs.declared.condition.Watch.{Watch}

-- ---- DefineEventCondition

-- the most conditions (this profile's limit)
abbrev pub most_conditions : ℕ
most_conditions = 256

-- an interval below 10 milliseconds counts as 10
abbrev pub interval_of : ℕ → ℕ
interval_of ms = max 10 ms

abbrev pub is_missing : CellFact → Bool
is_missing Missing = true
is_missing Other = false
is_missing (Found number says) = false

abbrev pub is_other : CellFact → Bool
is_other Missing = false
is_other Other = true
is_other (Found number says) = false

-- the number of a cell that was found
abbrev pub number_of : CellFact → ℕ
number_of Missing = 0
number_of Other = 0
number_of (Found number says) = number

-- why no condition is made, with whether the domain of its scope is live, and what becomes of the cell that it is to watch
abbrev pub define_cause : Bool → ℕ → DefineEventCondition → CellFact → Rows → Option ServiceError
define_cause live client asked cell rows =
    first_of (new_name live asked.name (is_some (condition client asked.name rows)) ++
    (is_some asked.monitored && is_missing cell, object_undefined)
    ∷ (is_some asked.monitored && is_other cell, type_inconsistent)
    ∷ (nat_le most_conditions (length rows), capability_unavailable)
    ∷ [])

-- one that is monitored begins disabled
abbrev pub class_defined : Moment → CellFact → Option Watched → ConditionClass
class_defined now cell None = NetworkTriggered
class_defined now cell (Some watched) = Monitored (record {
  cell = number_of cell;
  interval = interval_of watched.interval;
  defined = now;
  evaluation = None;
})

abbrev pub defined : Moment → DefineEventCondition → CellFact → Condition
defined now asked cell = record {
  priority = asked.priority;
  severity = asked.severity;
  class = class_defined now cell asked.monitored;
  to_active = None;
  to_idle = None;
}

abbrev pub after_define : ℕ → Moment → DefineEventCondition → CellFact → Rows → Rows
after_define client now asked cell rows = rows ++ (key_of client asked.name, defined now asked cell) ∷ []

-- ---- ReportEventConditionStatus

abbrev pub time_of_day : Moment → TimeOfDay
time_of_day moment = record { ms = moment.0 % 86400000; day = moment.0 / 86400000 }

abbrev pub event_time : Option Moment → EventTime
event_time None = event.Undefined
event_time (Some moment) = event.TimeOfDay (time_of_day moment)

-- one that is network-triggered is always enabled
abbrev pub is_enabled : ConditionClass → Bool
is_enabled NetworkTriggered = true
is_enabled (Monitored w) = is_some w.evaluation

-- what a condition is, with how many enrollments there are on it, of all clients
abbrev pub status_of : ℕ → Condition → ConditionStatus
status_of enrolments c = record {
  state = state_of c.class;
  enrolments = enrolments;
  enabled = is_enabled c.class;
  to_active = event_time c.to_active;
  to_idle = event_time c.to_idle;
}

abbrev pub status_cause : ℕ → ObjectName → Rows → Option ServiceError
status_cause client name rows = first_of ((is_none (condition client name rows), object_non_existent) ∷ [])

abbrev pub status : ℕ → ObjectName → ℕ → Rows → Option ConditionStatus
status client name enrolments rows = option_map (status_of enrolments) (condition client name rows)

-- ---- AlterEventConditionMonitoring: the interval first, and then whether it is enabled

abbrev pub is_network_triggered : ConditionClass → Bool
is_network_triggered NetworkTriggered = true
is_network_triggered (Monitored w) = false

-- one that is network-triggered has no interval, and isn't enabled or disabled
abbrev pub is_refused : AlterEventConditionMonitoring → ConditionClass → Bool
is_refused asked class = is_network_triggered class && (is_some asked.enabled || is_some asked.interval)

-- why a condition is not altered
abbrev pub alter_cause : ℕ → AlterEventConditionMonitoring → Rows → Option ServiceError
alter_cause client asked rows = first_of (
    (is_none (condition client asked.name rows), object_non_existent)
    ∷ (option_map_or (λ c. is_refused asked c.class) (condition client asked.name rows) false, object_state_conflict)
    ∷ [])

-- one that is enabled is evaluated next at the least multiple of its interval since its definition that lies after now
abbrev pub evaluation_at : Moment → Watch → Bool → Evaluation
evaluation_at now w is_active = record { is_active = is_active; next = least_multiple w.defined w.interval now }

-- a new interval
abbrev pub with_interval : Moment → ℕ → Watch → Watch
with_interval now interval w =
    let new : Watch = record w { interval = interval } in
    record new { evaluation = option_map (λ e. evaluation_at now new e.is_active) w.evaluation }

abbrev pub interval_altered : Moment → Option ℕ → Watch → Watch
interval_altered now None w = w
interval_altered now (Some ms) w = with_interval now (interval_of ms) w

-- what is enabled comes to what its cell says; the same again changes nothing
abbrev pub enabled_altered : Moment → Bool → Option Bool → Watch → Watch
enabled_altered now says None w = w
enabled_altered now says (Some false) w = record w { evaluation = None }
enabled_altered now says (Some true) w = record w { evaluation = Some (unwrap_or w.evaluation (evaluation_at now w says)) }

abbrev pub class_altered : Moment → Bool → AlterEventConditionMonitoring → ConditionClass → ConditionClass
class_altered now says asked NetworkTriggered = NetworkTriggered
class_altered now says asked (Monitored w) = Monitored (enabled_altered now says asked.enabled (interval_altered now asked.interval w))

-- what is told of it, with what the condition's cell says
abbrev pub alter_told : ℕ → Moment → Bool → AlterEventConditionMonitoring → Rows → Option Turned
alter_told client now says asked rows = option_and_then (λ c. move_told (key_of client asked.name) now (class_altered now says asked c.class) c) (condition client asked.name rows)

-- all that is asked for, or nothing
abbrev pub altered : Moment → Bool → AlterEventConditionMonitoring → Condition → Condition
altered now says asked c =
    if is_refused asked c.class then c
    else record (moved now (class_altered now says asked c.class) c) { priority = unwrap_or asked.priority c.priority }

abbrev pub after_alter : ℕ → Moment → Bool → AlterEventConditionMonitoring → Rows → Rows
after_alter client now says asked rows = changed (key_of client asked.name) (altered now says asked) rows

-- ---- TriggerEvent: idle to active, and then active to idle, at one moment

-- why a condition is not triggered: one that is monitored can't be
abbrev pub trigger_cause : ℕ → ObjectName → Rows → Option ServiceError
trigger_cause client name rows = first_of (
    (is_none (condition client name rows), object_non_existent)
    ∷ (option_map_or (λ c. not (is_network_triggered c.class)) (condition client name rows) false, object_state_conflict)
    ∷ [])

abbrev pub triggered_told : Key → Moment → Condition → List Turned
triggered_told key now c = turn key now c Active idle_to_active ∷ turn key now c Idle active_to_idle ∷ []

abbrev pub trigger_told : ℕ → Moment → ObjectName → Rows → Option (List Turned)
trigger_told client now name rows = option_map (triggered_told (key_of client name) now) (condition client name rows)

abbrev pub triggered : Moment → Condition → Condition
triggered now c = if is_network_triggered c.class then record c { to_active = Some now; to_idle = Some now } else c

abbrev pub after_trigger : ℕ → Moment → ObjectName → Rows → Rows
after_trigger client now name rows = changed (key_of client name) (triggered now) rows
