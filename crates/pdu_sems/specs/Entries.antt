-- The entries of a semaphore (ISO 9506-2, ReportSemaphoreEntryStatus).
use Rattle.std.specs.Prelude.{◌≡◌, ◌==◌, ℕ, Bool, true, List, [], ◌∷◌, length, get_or, refl}
use Rattle.ber_forms.specs.Form.{any_number}
use Rattle.mms_types.specs.Semaphores.{entry_state_number, entry_class_number}
use Rattle.mms_types.specs.declared.semaphore.EntryState.{EntryState}
use Rattle.mms_types.specs.declared.semaphore.EntryState.TheVariants.{Queued, Owner, Hung}
use Rattle.mms_types.specs.declared.semaphore.EntryNumber.{EntryNumber}
use Rattle.mms_types.specs.declared.semaphore.ReportSemaphoreEntryStatus.{ReportSemaphoreEntryStatus}
use Rattle.mms_types.specs.declared.semaphore.EntryClass.{EntryClass}
use Rattle.mms_types.specs.declared.semaphore.EntryClass.TheVariants.{Simple, Modifier}
use Rattle.mms_types.specs.declared.semaphore.EntryStatus.{EntryStatus}
use Rattle.mms_types.specs.declared.semaphore.EntryStatuses.{EntryStatuses}
use Rattle.pdu_names.specs.Names.{identifier, names}
use Rattle.pdu_names.specs.Kinds.{Kind, boolean, unsigned32, enumerated, octets, octet_string, application_reference, of_one, context, universal, list_of, choice, sequence, required, optional, defaulted, no_more}
use Rattle.pdu_sems.specs.Control.{priority}

-- state: queued 0, owner 1, hung 2
abbrev state_numbered : ℕ → EntryState
state_numbered n = get_or (Queued ∷ Owner ∷ []) n Hung

pub state_again : (s : EntryState) → state_numbered (entry_state_number s) ≡ s
state_again Queued = refl
state_again Owner = refl
state_again Hung = refl

abbrev pub entry_state : Kind EntryState
entry_state = enumerated 2 entry_state_number state_numbered state_again

abbrev are_eight : List ℕ → Bool
are_eight octets = length octets == 8

-- the number of an entry, of 8 octets in requests (this profile's choice)
abbrev pub entry_number : Kind EntryNumber
entry_number = of_one (octets are_eight) (λ n. n.octets) (λ octets. record { octets = octets }) (λ n. refl)

-- ReportSemaphoreEntryStatus-Request: semaphoreName, state and entryIDToStartAfter
abbrev pub report_entries : Kind ReportSemaphoreEntryStatus
report_entries = sequence (
    required (context 0 (choice names)) (λ x. x.name) (
    required (context 1 entry_state) (λ x. x.state) (
    optional (context 2 entry_number) (λ x. x.after) no_more)))
    (λ name state after. record { name = name; state = state; after = after }) (λ x. refl)

-- entryClass: simple 0, modifier 1
abbrev class_numbered : ℕ → EntryClass
class_numbered n = get_or (Simple ∷ []) n Modifier

pub class_again : (c : EntryClass) → class_numbered (entry_class_number c) ≡ c
class_again Simple = refl
class_again Modifier = refl

abbrev pub entry_class : Kind EntryClass
entry_class = enumerated 1 entry_class_number class_numbered class_again

-- SemaphoreEntry: entryID, entryClass, applicationReference, namedToken, priority, 64 where it is absent,
-- remainingTimeOut, abortOnTimeOut, and relinquishIfConnectionLost, TRUE where it is absent
abbrev pub entry_status : Kind EntryStatus
entry_status = sequence (
    required (context 0 octet_string) (λ x. x.number) (
    required (context 1 entry_class) (λ x. x.class) (
    required (context 2 application_reference) (λ x. x.client) (
    optional (context 3 identifier) (λ x. x.token) (
    defaulted (context 4 priority) 64 (λ x. x.priority) (
    optional (context 5 unsigned32) (λ x. x.remaining) (
    optional (context 6 boolean) (λ x. x.abort) (
    defaulted (context 7 boolean) true (λ x. x.relinquish) no_more))))))))
    (λ number class client token priority remaining abort relinquish.
    record { number = number; class = class; client = client; token = token; priority = priority; remaining = remaining; abort = abort; relinquish = relinquish })
    (λ x. refl)

-- ReportSemaphoreEntryStatus-Response: listOfSemaphoreEntry, each a SEQUENCE, and moreFollows, which is always written
-- (this profile's choice)
abbrev pub entry_statuses : Kind EntryStatuses
entry_statuses = sequence (
    required (context 0 (list_of any_number (universal 16 entry_status))) (λ x. x.entries) (
    required (context 1 boolean) (λ x. x.more) no_more))
    (λ entries more. record { entries = entries; more = more }) (λ x. refl)
