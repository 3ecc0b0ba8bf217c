-- Who is told what of transitions of event conditions (ISO 9506-1 and ISO 9506-2, EventNotification).
use Rattle.std.specs.Prelude.{ℕ, ◌==◌, List, Some, map, if◌then◌else◌}
use Rattle.std.specs.List.{flat_map}
use Rattle.std.specs.Option.{option_map}
use Rattle.mms_types.specs.declared.condition.ConditionState.{ConditionState}
use Rattle.mms_types.specs.declared.condition.ConditionState.TheVariants.{Disabled, Idle, Active}
use Rattle.mms_types.specs.declared.condition.EventNotification.{EventNotification}
use Rattle.mms_types.specs.declared.condition.Notice.{Notice}
use Rattle.mms_types.specs.declared.condition.Turned.{Turned}
use Rattle.mms_types.specs.declared.pdu.Pdu.TheVariants as pdu
use Rattle.event_cond.specs.Services.{event_time}
use Rattle.event_enrol.specs.Enrolments.{Rows, notices}
use Rattle.cell_client.specs.Association.{sends}
use Rattle.cell_client.specs.Effects.{Effect}

-- the state of a number
abbrev pub state_numbered : ℕ → ConditionState
state_numbered number = if number == 0 then Disabled else if number == 1 then Idle else Active

-- what a client is told of a transition: both names as it gives them, how severe the condition is, the state that it came to, and when
abbrev pub notification : Turned → Notice → EventNotification
notification turned n = record {
  enrolment = n.enrolment;
  condition = n.condition;
  severity = turned.severity;
  state = option_map state_numbered turned.state;
  time = event_time (Some turned.at);
}

abbrev pub notice_told : Turned → Notice → ℕ × Effect
notice_told turned n = (n.client, sends (pdu.EventNotification (notification turned n)))

abbrev pub notices_told : Turned → List Notice → List (ℕ × Effect)
notices_told turned list = map (notice_told turned) list

-- the client of each enrollment that is told of the transition, in the order in which the enrollments were defined
abbrev pub turn_told : Rows → Turned → List (ℕ × Effect)
turn_told rows turned = notices_told turned (notices turned rows)

-- one transition after the other
abbrev pub turns_told : Rows → List Turned → List (ℕ × Effect)
turns_told rows turns = flat_map (turn_told rows) turns

-- ---- who

-- the clients that are told of a transition, each as often as it is told
abbrev pub turn_clients : Rows → Turned → List ℕ
turn_clients rows turned = map (λ n. n.client) (notices turned rows)

abbrev pub clients_of : List Turned → Rows → List ℕ
clients_of turns rows = flat_map (turn_clients rows) turns
