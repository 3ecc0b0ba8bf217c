-- Event conditions: where each stands, and what it is after a move (ISO 9506-1, event condition object).
use Rattle.std.specs.Prelude.{ℕ, Bool, true, false, List, Option, None, Some, option_and_then}
use Rattle.std.specs.Map.{lookup, set_value}
use Rattle.std.specs.Option.{option_map, option_map_or}
use Rattle.mms_types.specs.ConditionStates.{condition_state_number}
use Rattle.mms_types.specs.Order.{key_eq, key_of}
use Rattle.mms_types.specs.declared.condition.ConditionState.{ConditionState}
use Rattle.mms_types.specs.declared.condition.ConditionState.TheVariants.{Disabled, Idle, Active}
use Rattle.mms_types.specs.declared.condition.Turned.{Turned}
use Rattle.mms_types.specs.declared.key.Key.{Key}
use Rattle.mms_types.specs.declared.moment.Moment.{Moment}
use Rattle.mms_types.specs.declared.object_name.ObjectName.{ObjectName}
use Rattle.event_cond.specs.Multiples.{later}
use Rattle.event_cond.specs.Transitions.{transition}
use Rattle.event_cond.specs.declared.condition.Condition.{Condition}
use Rattle.event_cond.specs.declared.condition.ConditionClass.{ConditionClass}
use Rattle.event_cond.specs.declared.condition.ConditionClass.TheVariants.{NetworkTriggered, Monitored}
use Rattle.event_cond.specs.declared.condition.Evaluation.{Evaluation}
use Rattle.event_cond.specs.declared.condition.Watch.{Watch}

-- the conditions under their names, in order of definition
abbrev pub Rows : Type 0
Rows = List (Key × Condition)

-- the condition of that name, and the one that a client names so
abbrev pub named : Key → Rows → Option Condition
named key rows = lookup (key_eq key) rows

abbrev pub condition : ℕ → ObjectName → Rows → Option Condition
condition client name rows = named (key_of client name) rows

-- the condition of that name is changed so, where it is there, and all others are as before
abbrev pub changed : Key → (Condition → Condition) → Rows → Rows
changed key f rows = option_map_or (λ c. set_value (key_eq key) rows (f c)) (named key rows) rows

-- ---- where it stands

-- where it is enabled: active where its cell was TRUE
abbrev pub enabled_state : Bool → ConditionState
enabled_state true = Active
enabled_state false = Idle

abbrev pub watch_state : Option Evaluation → ConditionState
watch_state None = Disabled
watch_state (Some e) = enabled_state e.is_active

-- one that is network-triggered is idle between its events
abbrev pub state_of : ConditionClass → ConditionState
state_of NetworkTriggered = Idle
state_of (Monitored w) = watch_state w.evaluation

-- ---- a move

-- the moment is kept of a transition to active, and of one to idle
abbrev pub dated : Option ℕ → ConditionState → Moment → Condition → Condition
dated None state now c = c
dated (Some number) Disabled now c = c
dated (Some number) Idle now c = record c { to_idle = Some now }
dated (Some number) Active now c = record c { to_active = Some now }

-- its class becomes that one at a moment, by which it may come to another state
abbrev pub moved : Moment → ConditionClass → Condition → Condition
moved now class c = record (dated (transition (state_of c.class) (state_of class)) (state_of class) now c) { class = class }

abbrev pub turn : Key → Moment → Condition → ConditionState → ℕ → Turned
turn key now c state number = record {
  condition = key;
  transition = number;
  severity = c.severity;
  state = Some (condition_state_number state);
  at = now;
}

-- what is told of such a move: nothing where the state stays
abbrev pub move_told : Key → Moment → ConditionClass → Condition → Option Turned
move_told key now class c = option_map (turn key now c (state_of class)) (transition (state_of c.class) (state_of class))

-- ---- an evaluation: the state is what the cell says, and the next evaluation is a whole interval later

abbrev pub evaluated : Moment → Bool → Watch → Watch
evaluated now says w = record w { evaluation = Some (record { is_active = says; next = later now w.interval }) }

abbrev pub class_evaluated : Moment → Bool → ConditionClass → ConditionClass
class_evaluated now says NetworkTriggered = NetworkTriggered
class_evaluated now says (Monitored w) = Monitored (evaluated now says w)

-- what is told of the evaluation of the condition of that name, and the conditions after it
abbrev pub evaluate_told : Key → Moment → Bool → Rows → Option Turned
evaluate_told key now says rows = option_and_then (λ c. move_told key now (class_evaluated now says c.class) c) (named key rows)

abbrev pub after_evaluate : Key → Moment → Bool → Rows → Rows
after_evaluate key now says rows = changed key (λ c. moved now (class_evaluated now says c.class) c) rows
