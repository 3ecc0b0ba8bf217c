-- Services for event conditions, event enrollments and journals (ISO 9506-2, event management and journal management).
use Rattle.std.specs.Prelude.{◌≡◌, true, List, [], ◌∷◌, Option, Some, None}
use Rattle.std.proofs.Common.{refl, ap}
use Rattle.ber_forms.specs.Value.{Value, chosen}
use Rattle.ber_forms.specs.Fits.{sound_alternatives}
use Rattle.mms_types.specs.declared.identifier.Edition.{Edition}
use Rattle.mms_types.specs.declared.pdu.Request.{Request}
use Rattle.mms_types.specs.declared.pdu.Request.TheVariants as request
use Rattle.mms_types.specs.declared.pdu.Answer.{Answer}
use Rattle.mms_types.specs.declared.pdu.Answer.TheVariants as answer
use Rattle.pdu_names.specs.Kinds.{null, unsigned32, choice}
use Rattle.pdu_names.specs.Names.{names, names_sound}
use Rattle.pdu_vars.specs.Variables.{specifications_sound}
use Rattle.pdu_areas.specs.Services.{Service, service, forms_of}
use Rattle.pdu_areas.specs.Joined.{IsMade}
use Rattle.pdu_areas.specs.Areas.{Area, asks_of, answers_of}
use Rattle.pdu_events.specs.Conditions.{condition_status, define_condition, delete_conditions}
use Rattle.pdu_events.specs.Changes.{alter_monitoring, trigger_event}
use Rattle.pdu_events.specs.Enrollments.{define_enrollment, delete_enrollments}
use Rattle.pdu_events.specs.Entries.{entry_contents_sound}
use Rattle.pdu_events.specs.Journals.{initialize_journal, journal_named, journal_status, read_journal, read_journal_answer, write_journal}

-- in the order of their numbers
abbrev pub event_services : List Service
event_services =
    service 47 define_condition request.DefineEventCondition null (λ _. answer.DefineEventCondition) ∷
    service 48 (choice delete_conditions) request.DeleteEventCondition unsigned32 answer.DeleteEventCondition ∷
    service 50 (choice names) request.ReportEventConditionStatus condition_status answer.ReportEventConditionStatus ∷
    service 51 alter_monitoring request.AlterEventConditionMonitoring null (λ _. answer.AlterEventConditionMonitoring) ∷
    service 52 trigger_event request.TriggerEvent null (λ _. answer.TriggerEvent) ∷
    service 57 define_enrollment request.DefineEventEnrollment null (λ _. answer.DefineEventEnrollment) ∷
    service 58 (choice delete_enrollments) request.DeleteEventEnrollment unsigned32 answer.DeleteEventEnrollment ∷
    service 65 read_journal request.ReadJournal read_journal_answer answer.ReadJournal ∷
    service 66 write_journal request.WriteJournal null (λ _. answer.WriteJournal) ∷
    service 67 initialize_journal request.InitializeJournal unsigned32 answer.InitializeJournal ∷
    service 68 (choice names) request.ReportJournalStatus journal_status answer.ReportJournalStatus ∷
    service 69 journal_named request.CreateJournal null (λ _. answer.CreateJournal) ∷
    service 70 journal_named request.DeleteJournal null (λ _. answer.DeleteJournal) ∷
    []

-- ---- what is asked

abbrev event_asked : Request → Option Value
event_asked (request.DefineEventCondition x) = Some (chosen 47 (define_condition.value x))
event_asked (request.DeleteEventCondition x) = Some (chosen 48 ((choice delete_conditions).value x))
event_asked (request.ReportEventConditionStatus x) = Some (chosen 50 ((choice names).value x))
event_asked (request.AlterEventConditionMonitoring x) = Some (chosen 51 (alter_monitoring.value x))
event_asked (request.TriggerEvent x) = Some (chosen 52 (trigger_event.value x))
event_asked (request.DefineEventEnrollment x) = Some (chosen 57 (define_enrollment.value x))
event_asked (request.DeleteEventEnrollment x) = Some (chosen 58 ((choice delete_enrollments).value x))
event_asked (request.ReadJournal x) = Some (chosen 65 (read_journal.value x))
event_asked (request.WriteJournal x) = Some (chosen 66 (write_journal.value x))
event_asked (request.InitializeJournal x) = Some (chosen 67 (initialize_journal.value x))
event_asked (request.ReportJournalStatus x) = Some (chosen 68 ((choice names).value x))
event_asked (request.CreateJournal x) = Some (chosen 69 (journal_named.value x))
event_asked (request.DeleteJournal x) = Some (chosen 70 (journal_named.value x))
event_asked other = None

abbrev asked : Request → Option Request
asked r = Some r

pub asked_again : (r : Request) → IsMade (asks_of event_services) (event_asked r) r
asked_again (request.DefineEventCondition x) = ap (λ y. asked (request.DefineEventCondition y)) (define_condition.again x)
asked_again (request.DeleteEventCondition x) = ap (λ y. asked (request.DeleteEventCondition y)) ((choice delete_conditions).again x)
asked_again (request.ReportEventConditionStatus x) = ap (λ y. asked (request.ReportEventConditionStatus y)) ((choice names).again x)
asked_again (request.AlterEventConditionMonitoring x) = ap (λ y. asked (request.AlterEventConditionMonitoring y)) (alter_monitoring.again x)
asked_again (request.TriggerEvent x) = ap (λ y. asked (request.TriggerEvent y)) (trigger_event.again x)
asked_again (request.DefineEventEnrollment x) = ap (λ y. asked (request.DefineEventEnrollment y)) (define_enrollment.again x)
asked_again (request.DeleteEventEnrollment x) = ap (λ y. asked (request.DeleteEventEnrollment y)) ((choice delete_enrollments).again x)
asked_again (request.ReadJournal x) = ap (λ y. asked (request.ReadJournal y)) (read_journal.again x)
asked_again (request.WriteJournal x) = ap (λ y. asked (request.WriteJournal y)) (write_journal.again x)
asked_again (request.InitializeJournal x) = ap (λ y. asked (request.InitializeJournal y)) (initialize_journal.again x)
asked_again (request.ReportJournalStatus x) = ap (λ y. asked (request.ReportJournalStatus y)) ((choice names).again x)
asked_again (request.CreateJournal x) = ap (λ y. asked (request.CreateJournal y)) (journal_named.again x)
asked_again (request.DeleteJournal x) = ap (λ y. asked (request.DeleteJournal y)) (journal_named.again x)
asked_again other = tt

pub asks_sound : (e : Edition) → sound_alternatives (forms_of (asks_of event_services) e) ≡ true
asks_sound e = rw (names_sound e, specifications_sound e, entry_contents_sound e) refl

-- ---- what is answered

abbrev event_answered : Answer → Option Value
event_answered answer.DefineEventCondition = Some (chosen 47 (null.value tt))
event_answered (answer.DeleteEventCondition x) = Some (chosen 48 (unsigned32.value x))
event_answered (answer.ReportEventConditionStatus x) = Some (chosen 50 (condition_status.value x))
event_answered answer.AlterEventConditionMonitoring = Some (chosen 51 (null.value tt))
event_answered answer.TriggerEvent = Some (chosen 52 (null.value tt))
event_answered answer.DefineEventEnrollment = Some (chosen 57 (null.value tt))
event_answered (answer.DeleteEventEnrollment x) = Some (chosen 58 (unsigned32.value x))
event_answered (answer.ReadJournal x) = Some (chosen 65 (read_journal_answer.value x))
event_answered answer.WriteJournal = Some (chosen 66 (null.value tt))
event_answered (answer.InitializeJournal x) = Some (chosen 67 (unsigned32.value x))
event_answered (answer.ReportJournalStatus x) = Some (chosen 68 (journal_status.value x))
event_answered answer.CreateJournal = Some (chosen 69 (null.value tt))
event_answered answer.DeleteJournal = Some (chosen 70 (null.value tt))
event_answered other = None

abbrev answered : Answer → Option Answer
answered a = Some a

pub answered_again : (a : Answer) → IsMade (answers_of event_services) (event_answered a) a
answered_again answer.DefineEventCondition = refl
answered_again (answer.DeleteEventCondition x) = refl
answered_again (answer.ReportEventConditionStatus x) = ap (λ y. answered (answer.ReportEventConditionStatus y)) (condition_status.again x)
answered_again answer.AlterEventConditionMonitoring = refl
answered_again answer.TriggerEvent = refl
answered_again answer.DefineEventEnrollment = refl
answered_again (answer.DeleteEventEnrollment x) = refl
answered_again (answer.ReadJournal x) = ap (λ y. answered (answer.ReadJournal y)) (read_journal_answer.again x)
answered_again answer.WriteJournal = refl
answered_again (answer.InitializeJournal x) = refl
answered_again (answer.ReportJournalStatus x) = ap (λ y. answered (answer.ReportJournalStatus y)) (journal_status.again x)
answered_again answer.CreateJournal = refl
answered_again answer.DeleteJournal = refl
answered_again other = tt

pub answers_sound : (e : Edition) → sound_alternatives (forms_of (answers_of event_services) e) ≡ true
answers_sound e = rw (entry_contents_sound e) refl

abbrev pub event_area : Area
event_area = record {
  services = event_services;
  requests = record { arms = asks_of event_services; value = event_asked; again = asked_again; sound = asks_sound };
  answers = record { arms = answers_of event_services; value = event_answered; again = answered_again; sound = answers_sound };
}
