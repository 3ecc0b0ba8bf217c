-- Services for semaphores (ISO 9506-2, semaphore management).
use Rattle.std.specs.Prelude.{◌≡◌, true, List, [], ◌∷◌, Option, Some, None}
use Rattle.std.proofs.Common.{refl, ap}
use Rattle.ber_forms.specs.Value.{Value, chosen}
use Rattle.ber_forms.specs.Fits.{sound_alternatives}
use Rattle.mms_types.specs.declared.identifier.Edition.{Edition}
use Rattle.mms_types.specs.declared.pdu.Request.{Request}
use Rattle.mms_types.specs.declared.pdu.Request.TheVariants as request
use Rattle.mms_types.specs.declared.pdu.Answer.{Answer}
use Rattle.mms_types.specs.declared.pdu.Answer.TheVariants as answer
use Rattle.pdu_names.specs.Kinds.{null, choice}
use Rattle.pdu_names.specs.Names.{names, names_sound}
use Rattle.pdu_areas.specs.Services.{Service, service, forms_of}
use Rattle.pdu_areas.specs.Joined.{IsMade}
use Rattle.pdu_areas.specs.Areas.{Area, asks_of, answers_of}
use Rattle.pdu_sems.specs.Control.{take_control, take_control_answers, relinquish_control}
use Rattle.pdu_sems.specs.Definitions.{define_semaphore, semaphore_status}
use Rattle.pdu_sems.specs.Pools.{report_pool, pool_status}
use Rattle.pdu_sems.specs.Entries.{report_entries, entry_statuses}

-- in the order of their numbers
abbrev pub semaphore_services : List Service
semaphore_services =
    service 19 take_control request.TakeControl (choice take_control_answers) answer.TakeControl ∷
    service 20 relinquish_control request.RelinquishControl null (λ _. answer.RelinquishControl) ∷
    service 21 define_semaphore request.DefineSemaphore null (λ _. answer.DefineSemaphore) ∷
    service 22 (choice names) request.DeleteSemaphore null (λ _. answer.DeleteSemaphore) ∷
    service 23 (choice names) request.ReportSemaphoreStatus semaphore_status answer.ReportSemaphoreStatus ∷
    service 24 report_pool request.ReportPoolSemaphoreStatus pool_status answer.ReportPoolSemaphoreStatus ∷
    service 25 report_entries request.ReportSemaphoreEntryStatus entry_statuses answer.ReportSemaphoreEntryStatus ∷
    []

-- ---- what is asked

abbrev semaphore_asked : Request → Option Value
semaphore_asked (request.TakeControl x) = Some (chosen 19 (take_control.value x))
semaphore_asked (request.RelinquishControl x) = Some (chosen 20 (relinquish_control.value x))
semaphore_asked (request.DefineSemaphore x) = Some (chosen 21 (define_semaphore.value x))
semaphore_asked (request.DeleteSemaphore x) = Some (chosen 22 ((choice names).value x))
semaphore_asked (request.ReportSemaphoreStatus x) = Some (chosen 23 ((choice names).value x))
semaphore_asked (request.ReportPoolSemaphoreStatus x) = Some (chosen 24 (report_pool.value x))
semaphore_asked (request.ReportSemaphoreEntryStatus x) = Some (chosen 25 (report_entries.value x))
semaphore_asked other = None

abbrev asked : Request → Option Request
asked r = Some r

pub asked_again : (r : Request) → IsMade (asks_of semaphore_services) (semaphore_asked r) r
asked_again (request.TakeControl x) = ap (λ y. asked (request.TakeControl y)) (take_control.again x)
asked_again (request.RelinquishControl x) = ap (λ y. asked (request.RelinquishControl y)) (relinquish_control.again x)
asked_again (request.DefineSemaphore x) = ap (λ y. asked (request.DefineSemaphore y)) (define_semaphore.again x)
asked_again (request.DeleteSemaphore x) = ap (λ y. asked (request.DeleteSemaphore y)) ((choice names).again x)
asked_again (request.ReportSemaphoreStatus x) = ap (λ y. asked (request.ReportSemaphoreStatus y)) ((choice names).again x)
asked_again (request.ReportPoolSemaphoreStatus x) = ap (λ y. asked (request.ReportPoolSemaphoreStatus y)) (report_pool.again x)
asked_again (request.ReportSemaphoreEntryStatus x) = ap (λ y. asked (request.ReportSemaphoreEntryStatus y)) (report_entries.again x)
asked_again other = tt

pub asks_sound : (e : Edition) → sound_alternatives (forms_of (asks_of semaphore_services) e) ≡ true
asks_sound e = rw (names_sound e) refl

-- ---- what is answered

abbrev semaphore_answered : Answer → Option Value
semaphore_answered (answer.TakeControl x) = Some (chosen 19 ((choice take_control_answers).value x))
semaphore_answered answer.RelinquishControl = Some (chosen 20 (null.value tt))
semaphore_answered answer.DefineSemaphore = Some (chosen 21 (null.value tt))
semaphore_answered answer.DeleteSemaphore = Some (chosen 22 (null.value tt))
semaphore_answered (answer.ReportSemaphoreStatus x) = Some (chosen 23 (semaphore_status.value x))
semaphore_answered (answer.ReportPoolSemaphoreStatus x) = Some (chosen 24 (pool_status.value x))
semaphore_answered (answer.ReportSemaphoreEntryStatus x) = Some (chosen 25 (entry_statuses.value x))
semaphore_answered other = None

abbrev answered : Answer → Option Answer
answered a = Some a

pub answered_again : (a : Answer) → IsMade (answers_of semaphore_services) (semaphore_answered a) a
answered_again (answer.TakeControl x) = ap (λ y. answered (answer.TakeControl y)) ((choice take_control_answers).again x)
answered_again answer.RelinquishControl = refl
answered_again answer.DefineSemaphore = refl
answered_again answer.DeleteSemaphore = refl
answered_again (answer.ReportSemaphoreStatus x) = ap (λ y. answered (answer.ReportSemaphoreStatus y)) (semaphore_status.again x)
answered_again (answer.ReportPoolSemaphoreStatus x) = ap (λ y. answered (answer.ReportPoolSemaphoreStatus y)) (pool_status.again x)
answered_again (answer.ReportSemaphoreEntryStatus x) = ap (λ y. answered (answer.ReportSemaphoreEntryStatus y)) (entry_statuses.again x)
answered_again other = tt

pub answers_sound : (e : Edition) → sound_alternatives (forms_of (answers_of semaphore_services) e) ≡ true
answers_sound e = refl

abbrev pub semaphore_area : Area
semaphore_area = record {
  services = semaphore_services;
  requests = record { arms = asks_of semaphore_services; value = semaphore_asked; again = asked_again; sound = asks_sound };
  answers = record { arms = answers_of semaphore_services; value = semaphore_answered; again = answered_again; sound = answers_sound };
}
