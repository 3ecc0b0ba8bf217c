-- Event conditions (ISO 9506-2, event condition management): their definition, their deletion and what they are.
use Rattle.std.specs.Prelude.{◌≡◌, ◌==◌, ℕ, Bool, true, false, not, List, [], ◌∷◌, Option, Some, None, option_map, is_some, get_or, refl}
use Rattle.ber_forms.specs.Value.{Value, Slot, parts, missing, given, done, slot, chosen}
use Rattle.ber_forms.specs.Form.{from_to}
use Rattle.mms_types.specs.ConditionStates.{condition_state_number}
use Rattle.mms_types.specs.declared.condition.ConditionState.{ConditionState}
use Rattle.mms_types.specs.declared.condition.ConditionState.TheVariants.{Disabled, Idle, Active}
use Rattle.mms_types.specs.declared.condition.ConditionStatus.{ConditionStatus}
use Rattle.mms_types.specs.declared.condition.DefineEventCondition.{DefineEventCondition}
use Rattle.mms_types.specs.declared.condition.Monitored.{Monitored}
use Rattle.mms_types.specs.declared.object_name.ObjectName.{ObjectName}
use Rattle.mms_types.specs.declared.variable.Spec.{Spec}
use Rattle.pdu_names.specs.Names.{names}
use Rattle.pdu_names.specs.Kinds.{Kind, Choice, boolean, unsigned8, unsigned32, enumerated, such_that, of_one, context, one_of, list_of, choice, sequence, required, optional, defaulted, no_more, alternatives, or, no_other}
use Rattle.pdu_sems.specs.Control.{priority}
use Rattle.pdu_vars.specs.Variables.{specifications}
use Rattle.pdu_events.specs.declared.conditions.ConditionParts.{ConditionParts}
use Rattle.pdu_events.specs.Times.{event_times}

-- EC-State: disabled 0, idle 1, active 2
abbrev state_numbered : ℕ → ConditionState
state_numbered n = get_or (Disabled ∷ Idle ∷ []) n Active

pub state_again : (s : ConditionState) → state_numbered (condition_state_number s) ≡ s
state_again Disabled = refl
state_again Idle = refl
state_again Active = refl

abbrev pub condition_state : Kind ConditionState
condition_state = enumerated 2 condition_state_number state_numbered state_again

-- EC-Class: network-triggered 0, monitored 1
abbrev class_number : Bool → ℕ
class_number false = 0
class_number true = 1

abbrev class_numbered : ℕ → Bool
class_numbered n = n == 1

pub class_again : (monitored : Bool) → class_numbered (class_number monitored) ≡ monitored
class_again false = refl
class_again true = refl

abbrev pub is_monitored : Kind Bool
is_monitored = enumerated 1 class_number class_numbered class_again

-- eventConditionName, class, priority and severity, 64 where they are absent, alarmSummaryReports, monitoredVariable under an explicit tag, and
-- evaluationInterval
abbrev pub condition_parts : Kind ConditionParts
condition_parts = sequence (
    required (context 0 (choice names)) (λ x. x.name) (
    required (context 1 is_monitored) (λ x. x.is_monitored) (
    defaulted (context 2 priority) 64 (λ x. x.priority) (
    defaulted (context 3 unsigned8) 64 (λ x. x.severity) (
    optional (context 4 boolean) (λ x. x.summary) (
    optional (context 6 (choice specifications)) (λ x. x.variable) (
    optional (context 7 unsigned32) (λ x. x.interval) no_more)))))))
    (λ name is_monitored priority severity summary variable interval.
    record { name = name; is_monitored = is_monitored; priority = priority; severity = severity; summary = summary; variable = variable; interval = interval })
    (λ x. refl)

-- class 1 needs a variable and an interval, class 0 has neither
abbrev pub are_of_class : Value → Slot → Slot → Bool
are_of_class class (given variable) (given interval) = is_monitored.said class
are_of_class class missing missing = not (is_monitored.said class)
are_of_class class variable interval = false

abbrev pub has_what_it_needs : Value → Bool
has_what_it_needs (parts (slot _ (slot (given class) (slot _ (slot _ (slot _ (slot variable (slot interval done)))))))) = are_of_class class variable interval
has_what_it_needs v = false

-- the components of a condition, and the condition of such components
abbrev pub parts_of : DefineEventCondition → ConditionParts
parts_of x = record {
  name = x.name;
  is_monitored = is_some x.monitored;
  priority = x.priority;
  severity = x.severity;
  summary = x.summary;
  variable = option_map (λ m. m.variable) x.monitored;
  interval = option_map (λ m. m.interval) x.monitored;
}

abbrev watched : Option Spec → Option ℕ → Option Monitored
watched (Some variable) (Some interval) = Some (record { variable = variable; interval = interval })
watched variable interval = None

abbrev condition_of : ConditionParts → DefineEventCondition
condition_of p = record { name = p.name; priority = p.priority; severity = p.severity; summary = p.summary; monitored = watched p.variable p.interval }

watched_again : (m : Option Monitored) → watched (option_map (λ m. m.variable) m) (option_map (λ m. m.interval) m) ≡ m
watched_again None = refl
watched_again (Some m) = refl

pub condition_again : (x : DefineEventCondition) → condition_of (parts_of x) ≡ x
condition_again x = λ i. record { name = x.name; priority = x.priority; severity = x.severity; summary = x.summary; monitored = watched_again x.monitored i }

-- DefineEventCondition-Request
abbrev pub define_condition : Kind DefineEventCondition
define_condition = of_one (such_that has_what_it_needs condition_parts) parts_of condition_of condition_again

-- at most 65,000 names (this profile's choice)
abbrev pub event_names : Kind (List ObjectName)
event_names = list_of (from_to 0 65000) (one_of names)

-- DeleteEventCondition-Request: the names 0, and no other alternative (this profile's choice)
abbrev pub delete_conditions : Choice (List ObjectName)
delete_conditions = alternatives (or 0 event_names (λ names. names) (no_other [])) (λ names. chosen 0 (event_names.value names)) event_names.again

-- ReportEventConditionStatus-Response: currentState, numberOfEventEnrollments, enabled, timeOfLastTransitionToActive and timeOfLastTransitionToIdle, both
-- under an explicit tag
abbrev pub condition_status : Kind ConditionStatus
condition_status = sequence (
    required (context 0 condition_state) (λ x. x.state) (
    required (context 1 unsigned32) (λ x. x.enrolments) (
    required (context 2 boolean) (λ x. x.enabled) (
    required (context 3 (choice event_times)) (λ x. x.to_active) (
    required (context 4 (choice event_times)) (λ x. x.to_idle) no_more)))))
    (λ state enrolments enabled to_active to_idle.
    record { state = state; enrolments = enrolments; enabled = enabled; to_active = to_active; to_idle = to_idle })
    (λ x. refl)
