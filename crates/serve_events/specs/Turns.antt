-- Requests by which conditions come to another state, or go: the transitions, and the tables after them.
use Rattle.std.specs.Prelude.{ℕ, ◌==◌, Bool, true, false, List, [], Option, None}
use Rattle.std.specs.List.{list_any}
use Rattle.mms_types.specs.declared.area.EventRequest.{EventRequest}
use Rattle.mms_types.specs.declared.area.EventRequest.TheVariants as request
use Rattle.mms_types.specs.declared.condition.Turned.{Turned}
use Rattle.mms_types.specs.declared.moment.Moment.{Moment}
use Rattle.mms_types.specs.declared.variable.Spec.{Spec}
use Rattle.cell_client.specs.Areas.{domain_in}
use Rattle.cell_client.specs.Effects.{Effect}
use Rattle.serve_events.specs.Events.{after_alter, after_delete, after_trigger, alter_turns, delete_turns, trigger_turns, variable_of}
use Rattle.serve_events.specs.declared.tables.EventTables.{EventTables}

-- the transitions that a request of a client makes, in order; what its words say of a cell is what the cell says that the condition watches
abbrev pub turns_of : ℕ → Moment → Bool → EventRequest → EventTables → List Turned
turns_of client now says (request.DeleteEventCondition names) t = delete_turns client now names.now t
turns_of client now says (request.AlterEventConditionMonitoring x) t = alter_turns client now says x.now t
turns_of client now says (request.TriggerEvent x) t = trigger_turns client now x.now.name t
turns_of client now says other t = []

-- and the tables after it
abbrev pub turned_after : ℕ → Moment → Bool → EventRequest → EventTables → EventTables
turned_after client now says (request.DeleteEventCondition names) t = after_delete client now names.now t
turned_after client now says (request.AlterEventConditionMonitoring x) t = after_alter client now says x.now t
turned_after client now says (request.TriggerEvent x) t = after_trigger client now x.now.name t
turned_after client now says other t = t

-- ---- what its words ask

-- the domain that has to be live, where one has to: that of a new name
abbrev pub domain_asked : EventRequest → Option (List ℕ)
domain_asked (request.DefineEventCondition x) = domain_in x.now.name
domain_asked (request.DefineEventEnrollment x) = domain_in x.now.name
domain_asked other = None

-- the variable that is to be watched
abbrev pub variable_asked : EventRequest → Option Spec
variable_asked (request.DefineEventCondition x) = variable_of x.now.monitored
variable_asked other = None

-- ---- who is told

-- it makes none, whatever the tables are: it tells its client alone something
abbrev pub tells_alone : EventRequest → Bool
tells_alone (request.DeleteEventCondition names) = false
tells_alone (request.AlterEventConditionMonitoring x) = false
tells_alone (request.TriggerEvent x) = false
tells_alone other = true

-- the client is one of these
abbrev pub is_one_of : List ℕ → ℕ → Bool
is_one_of clients k = list_any (λ client. client == k) clients

-- something is told to the client
abbrev pub is_told : List (ℕ × Effect) → ℕ → Bool
is_told told k = list_any (λ t. t.0 == k) told
