-- What is done to event conditions (ISO 9506-2, event condition management): they are changed and triggered.
use Rattle.std.specs.Prelude.{refl}
use Rattle.mms_types.specs.declared.condition.AlterEventConditionMonitoring.{AlterEventConditionMonitoring}
use Rattle.mms_types.specs.declared.condition.TriggerEvent.{TriggerEvent}
use Rattle.pdu_names.specs.Names.{names}
use Rattle.pdu_names.specs.Kinds.{Kind, boolean, unsigned32, context, choice, sequence, required, optional, no_more}
use Rattle.pdu_sems.specs.Control.{priority}

-- AlterEventConditionMonitoring-Request: eventConditionName, enabled, priority, alarmSummaryReports and evaluationInterval
abbrev pub alter_monitoring : Kind AlterEventConditionMonitoring
alter_monitoring = sequence (
    required (context 0 (choice names)) (λ x. x.name) (
    optional (context 1 boolean) (λ x. x.enabled) (
    optional (context 2 priority) (λ x. x.priority) (
    optional (context 3 boolean) (λ x. x.summary) (
    optional (context 4 unsigned32) (λ x. x.interval) no_more)))))
    (λ name enabled priority summary interval. record { name = name; enabled = enabled; priority = priority; summary = summary; interval = interval })
    (λ x. refl)

-- TriggerEvent-Request: eventConditionName and priority
abbrev pub trigger_event : Kind TriggerEvent
trigger_event = sequence (
    required (context 0 (choice names)) (λ x. x.name) (
    optional (context 1 priority) (λ x. x.priority) no_more))
    (λ name priority. record { name = name; priority = priority }) (λ x. refl)
