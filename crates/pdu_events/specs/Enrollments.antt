-- Event enrollments (ISO 9506-2, event enrollment management): their definition, their deletion, and what their clients are told.
use Rattle.std.specs.Prelude.{◌≡◌, [], refl}
use Rattle.std.proofs.Common.{ap}
use Rattle.ber_forms.specs.Value.{Value, chosen}
use Rattle.mms_types.specs.declared.condition.DefineEventEnrollment.{DefineEventEnrollment}
use Rattle.mms_types.specs.declared.condition.DeleteEventEnrollment.{DeleteEventEnrollment}
use Rattle.mms_types.specs.declared.condition.DeleteEventEnrollment.TheVariants.{Names, Condition}
use Rattle.mms_types.specs.declared.condition.EventNotification.{EventNotification}
use Rattle.pdu_names.specs.Names.{names}
use Rattle.pdu_names.specs.Kinds.{Kind, Choice, Arms, natural, unsigned8, named_bits, context, choice, sequence, required, optional, no_more, alternatives, made_of, or, no_other}
use Rattle.pdu_events.specs.Times.{event_times}
use Rattle.pdu_events.specs.Conditions.{condition_state, event_names}

-- DefineEventEnrollment-Request: eventEnrollmentName, eventConditionName, eventConditionTransitions, of 7 named bits, and alarmAcknowledgementRule, 0
-- alone (this profile's choice)
abbrev pub define_enrollment : Kind DefineEventEnrollment
define_enrollment = sequence (
    required (context 0 (choice names)) (λ x. x.name) (
    required (context 1 (choice names)) (λ x. x.condition) (
    required (context 2 (named_bits 7)) (λ x. x.transitions.octets) (
    required (context 3 (natural 0 0)) (λ x. x.rule) no_more))))
    (λ name condition transitions rule.
    record { name = name; condition = condition; transitions = record { octets = transitions }; rule = rule })
    (λ x. refl)

-- DeleteEventEnrollment-Request: the names 0, or eventConditionName 1, which is explicit
abbrev delete_arms : Arms DeleteEventEnrollment
delete_arms = or 0 event_names Names (or 1 (choice names) Condition (no_other (Names [])))

abbrev delete_value : DeleteEventEnrollment → Value
delete_value (Names list) = chosen 0 (event_names.value list)
delete_value (Condition name) = chosen 1 (names.value name)

pub delete_again : (x : DeleteEventEnrollment) → made_of delete_arms (delete_value x) ≡ x
delete_again (Names list) = ap Names (event_names.again list)
delete_again (Condition name) = ap Condition (names.again name)

abbrev pub delete_enrollments : Choice DeleteEventEnrollment
delete_enrollments = alternatives delete_arms delete_value delete_again

-- EventNotification: eventEnrollmentName, eventConditionName, severity, currentState, and transitionTime under an explicit tag
abbrev pub event_notification : Kind EventNotification
event_notification = sequence (
    required (context 0 (choice names)) (λ x. x.enrolment) (
    required (context 1 (choice names)) (λ x. x.condition) (
    required (context 2 unsigned8) (λ x. x.severity) (
    optional (context 3 condition_state) (λ x. x.state) (
    required (context 4 (choice event_times)) (λ x. x.time) no_more)))))
    (λ enrolment condition severity state time.
    record { enrolment = enrolment; condition = condition; severity = severity; state = state; time = time })
    (λ x. refl)
