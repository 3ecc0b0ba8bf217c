-- Requests for event conditions and event enrollments (ISO 9506-1, event management): the services on the rows that hold them, at the moment of the device.
use Rattle.std.specs.Prelude.{ℕ, Bool, false, not, ◌||◌, List, [], ◌∷◌, Option, None, Some, filter, is_some, option_to_list, option_and_then, if◌then◌else◌}
use Rattle.std.specs.List.{list_any}
use Rattle.std.specs.Option.{option_map, option_map_or, unwrap_or}
use Rattle.mms_types.specs.Order.{key_eq, key_of}
use Rattle.mms_types.specs.declared.area.EventRequest.{EventRequest}
use Rattle.mms_types.specs.declared.area.EventRequest.TheVariants as request
use Rattle.mms_types.specs.declared.condition.AlterEventConditionMonitoring.{AlterEventConditionMonitoring}
use Rattle.mms_types.specs.declared.condition.CellFact.{CellFact}
use Rattle.mms_types.specs.declared.condition.DefineEventCondition.{DefineEventCondition}
use Rattle.mms_types.specs.declared.condition.DefineEventEnrollment.{DefineEventEnrollment}
use Rattle.mms_types.specs.declared.condition.DeleteEventEnrollment.{DeleteEventEnrollment}
use Rattle.mms_types.specs.declared.condition.DeleteEventEnrollment.TheVariants as deleted
use Rattle.mms_types.specs.declared.condition.Monitored.{Monitored as Watched}
use Rattle.mms_types.specs.declared.condition.TriggerEvent.{TriggerEvent}
use Rattle.mms_types.specs.declared.condition.Turned.{Turned}
use Rattle.mms_types.specs.declared.moment.Moment.{Moment}
use Rattle.mms_types.specs.declared.object_name.ObjectName.{ObjectName}
use Rattle.mms_types.specs.declared.pdu.Answer.{Answer}
use Rattle.mms_types.specs.declared.pdu.Answer.TheVariants as answer
use Rattle.mms_types.specs.declared.variable.Spec.{Spec}
use Rattle.mms_types.specs.declared.variable.Spec.TheVariants as spec
use Rattle.event_cond.specs.Conditions.{Rows as Conditions, condition}
use Rattle.event_cond.specs.Deletion as deletion
use Rattle.object_names.specs.Deletion.{missing}
use Rattle.event_cond.specs.Services as cond
use Rattle.event_cond.specs.declared.condition.ConditionClass.{ConditionClass}
use Rattle.event_cond.specs.declared.condition.ConditionClass.TheVariants.{NetworkTriggered, Monitored}
use Rattle.event_enrol.specs.Enrolments.{Rows as Enrolments, is_on, number_on}
use Rattle.event_enrol.specs.Enrolments as enrol
use Rattle.association.specs.Client.{ClientRow}
use Rattle.cell_client.specs.Areas.{OutcomeIn, RequestIn, answers, changes, domain_in, is_of_domain}
use Rattle.cell_client.specs.Facts.{Question, Now, Live, Cell, Truth}
use Rattle.cell_client.specs.Requests.{fits, size_of}
use Rattle.serve_events.specs.Told.{turns_told}
use Rattle.serve_events.specs.declared.tables.EventTables.{EventTables}

-- ---- what is asked

-- the moment; whether a domain is live, where it has to be; and what becomes of the cell that is to be watched, where one is
abbrev pub at_its_moment : Bool → Option (List ℕ) → Option Spec → List Question
at_its_moment of_domain domain variable = Now ∷ Live of_domain domain ∷ Cell variable ∷ []

abbrev pub are_of_domain : List ObjectName → Bool
are_of_domain names = list_any is_of_domain names

-- the name of a domain is written in what is to be watched
abbrev pub is_in_domain : Spec → Bool
is_in_domain (spec.Name name) = is_of_domain name
is_in_domain (spec.Address cell) = false

abbrev pub variable_of : Option Watched → Option Spec
variable_of o = option_map (λ w. w.variable) o

-- the cell that a condition watches, where it is monitored
abbrev pub cell_watched : ConditionClass → Option ℕ
cell_watched NetworkTriggered = None
cell_watched (Monitored w) = Some w.cell

-- the one that the condition watches that a client names so, where it is there
abbrev pub watched : ℕ → Conditions → ObjectName → Option ℕ
watched client rows name = option_and_then (λ c. cell_watched c.class) (condition client name rows)

-- the first of those that the conditions of some names watch
abbrev pub first_of_both : Option ℕ → Option ℕ → Option ℕ
first_of_both None other = other
first_of_both (Some cell) other = Some cell

abbrev pub first_watched : ℕ → Conditions → List ObjectName → Option ℕ
first_watched client rows [] = None
first_watched client rows (name ∷ names) = first_of_both (watched client rows name) (first_watched client rows names)

-- ---- DefineEventCondition

abbrev pub define_condition : DefineEventCondition → RequestIn EventTables
define_condition x = record {
  words = at_its_moment (is_of_domain x.name || option_map_or is_in_domain (variable_of x.monitored) false) (domain_in x.name) (variable_of x.monitored);
  more = λ t row. Truth None ∷ [];
  cause = λ facts t row. cond.define_cause facts.live row.client x (facts.cell row.client) t.conditions;
  effect = λ facts t row invoke.
      changes (record t { conditions = cond.after_define row.client facts.now x (facts.cell row.client) t.conditions }) answer.DefineEventCondition;
}

-- the rows after a condition is defined, which it is where the client can be told; else they are as they were
abbrev pub condition_defined : ClientRow → ℕ → Moment → DefineEventCondition → CellFact → EventTables → EventTables
condition_defined row invoke now x cell t =
    if fits (size_of row.association) invoke (Some answer.DefineEventCondition)
    then record t { conditions = cond.after_define row.client now x cell t.conditions }
    else t

-- and after enrollments are deleted
abbrev pub enrolments_deleted : ClientRow → ℕ → DeleteEventEnrollment → EventTables → EventTables
enrolments_deleted row invoke x t =
    if fits (size_of row.association) invoke (Some (answer.DeleteEventEnrollment (enrol.undeleted row.client x t.enrolments)))
    then record t { enrolments = enrol.after_delete row.client x t.enrolments }
    else t

-- ---- transitions: a request is answered, and then what it makes conditions come to is told, transition by transition

abbrev pub turned : EventTables → EventTables → Answer → List Turned → OutcomeIn EventTables
turned t after told turns = record { tables = after; answer = Some told; also = turns_told t.enrolments turns }

-- DeleteEventCondition: those of these names that are there go, and all enrollments on them

abbrev pub without_named : List Turned → Conditions → Conditions
without_named turns rows = filter (λ row. not (list_any (λ turn. key_eq turn.condition row.0) turns)) rows

abbrev pub without_turned : List Turned → Enrolments → Enrolments
without_turned turns rows = filter (λ row. not (list_any (λ turn. is_on turn.condition row) turns)) rows

abbrev pub delete_turns : ℕ → Moment → List ObjectName → EventTables → List Turned
delete_turns client now names t = deletion.deletions client now names t.conditions

abbrev pub after_delete : ℕ → Moment → List ObjectName → EventTables → EventTables
after_delete client now names t = record {
  conditions = deletion.after_delete client names t.conditions;
  enrolments = without_turned (delete_turns client now names t) t.enrolments;
}

abbrev pub delete_conditions : List ObjectName → RequestIn EventTables
delete_conditions names = record {
  words = at_its_moment (are_of_domain names) None None;
  more = λ t row. Truth (first_watched row.client t.conditions names) ∷ [];
  cause = λ facts t row. None;
  effect = λ facts t row invoke.
      turned t (after_delete row.client facts.now names t) (answer.DeleteEventCondition (missing row.client names t.conditions))
      (delete_turns row.client facts.now names t);
}

-- AlterEventConditionMonitoring: at most one transition

abbrev pub alter_turns : ℕ → Moment → Bool → AlterEventConditionMonitoring → EventTables → List Turned
alter_turns client now says x t = option_to_list (cond.alter_told client now says x t.conditions)

abbrev pub after_alter : ℕ → Moment → Bool → AlterEventConditionMonitoring → EventTables → EventTables
after_alter client now says x t = record t { conditions = cond.after_alter client now says x t.conditions }

abbrev pub alter_condition : AlterEventConditionMonitoring → RequestIn EventTables
alter_condition x = record {
  words = at_its_moment (is_of_domain x.name) None None;
  more = λ t row. Truth (watched row.client t.conditions x.name) ∷ [];
  cause = λ facts t row. cond.alter_cause row.client x t.conditions;
  effect = λ facts t row invoke.
      turned t (after_alter row.client facts.now facts.truth x t) answer.AlterEventConditionMonitoring (alter_turns row.client facts.now facts.truth x t);
}

-- TriggerEvent: to active, and then to idle

abbrev pub trigger_turns : ℕ → Moment → ObjectName → EventTables → List Turned
trigger_turns client now name t = unwrap_or (cond.trigger_told client now name t.conditions) []

abbrev pub after_trigger : ℕ → Moment → ObjectName → EventTables → EventTables
after_trigger client now name t = record t { conditions = cond.after_trigger client now name t.conditions }

abbrev pub trigger : TriggerEvent → RequestIn EventTables
trigger x = record {
  words = at_its_moment (is_of_domain x.name) None None;
  more = λ t row. Truth (watched row.client t.conditions x.name) ∷ [];
  cause = λ facts t row. cond.trigger_cause row.client x.name t.conditions;
  effect = λ facts t row invoke.
      turned t (after_trigger row.client facts.now x.name t) answer.TriggerEvent (trigger_turns row.client facts.now x.name t);
}

-- ---- ReportEventConditionStatus

abbrev pub report_status : ObjectName → RequestIn EventTables
report_status name = record {
  words = at_its_moment (is_of_domain name) None None;
  more = λ t row. Truth (watched row.client t.conditions name) ∷ [];
  cause = λ facts t row. cond.status_cause row.client name t.conditions;
  effect = λ facts t row invoke.
      answers t (option_map answer.ReportEventConditionStatus (cond.status row.client name (number_on (key_of row.client name) t.enrolments) t.conditions));
}

-- ---- DefineEventEnrollment and DeleteEventEnrollment

abbrev pub is_there : ℕ → Conditions → ObjectName → Bool
is_there client rows name = is_some (condition client name rows)

abbrev pub define_enrolment : DefineEventEnrollment → RequestIn EventTables
define_enrolment x = record {
  words = at_its_moment (is_of_domain x.name || is_of_domain x.condition) (domain_in x.name) None;
  more = λ t row. Truth (watched row.client t.conditions x.condition) ∷ [];
  cause = λ facts t row. enrol.define_cause facts.live (is_there row.client t.conditions x.condition) row.client x t.enrolments;
  effect = λ facts t row invoke. changes (record t { enrolments = enrol.defined row.client x t.enrolments }) answer.DefineEventEnrollment;
}

-- the condition whose enrollments are to be deleted, where one is named
abbrev pub condition_named : DeleteEventEnrollment → Option ObjectName
condition_named (deleted.Names names) = None
condition_named (deleted.Condition name) = Some name

abbrev pub names_domain : DeleteEventEnrollment → Bool
names_domain (deleted.Names names) = are_of_domain names
names_domain (deleted.Condition name) = is_of_domain name

abbrev pub delete_enrolments : DeleteEventEnrollment → RequestIn EventTables
delete_enrolments x = record {
  words = at_its_moment (names_domain x) None None;
  more = λ t row. Truth (option_and_then (watched row.client t.conditions) (condition_named x)) ∷ [];
  cause = λ facts t row. enrol.delete_cause (option_map_or (is_there row.client t.conditions) (condition_named x) false) x;
  effect = λ facts t row invoke.
      changes (record t { enrolments = enrol.after_delete row.client x t.enrolments }) (answer.DeleteEventEnrollment (enrol.undeleted row.client x t.enrolments));
}

-- ---- each of them, as it is looked at

abbrev pub request_in : EventRequest → RequestIn EventTables
request_in (request.DefineEventCondition x) = define_condition x.now
request_in (request.DeleteEventCondition x) = delete_conditions x.now
request_in (request.ReportEventConditionStatus x) = report_status x.now
request_in (request.AlterEventConditionMonitoring x) = alter_condition x.now
request_in (request.TriggerEvent x) = trigger x.now
request_in (request.DefineEventEnrollment x) = define_enrolment x.now
request_in (request.DeleteEventEnrollment x) = delete_enrolments x.now
