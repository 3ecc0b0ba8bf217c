-- The services for journals: why each is refused, what it answers, and the journals after it (ISO 9506-1 and ISO 9506-2, journal management).
use Rattle.std.specs.Prelude.{◌≡◌, ⊤, Result, Ok, Err, ℕ, ◌+◌, nat_le, nat_lt, Bool, true, not, ◌&&◌, List, [], ◌∷◌, ◌++◌, Option, None, Some, filter, is_none, is_some, length, sum_by}
use Rattle.std.specs.Map.{remove_entry}
use Rattle.std.specs.Option.{option_map, option_map_or}
use Rattle.mms_types.specs.Errors.{first_of, capability_unavailable, object_non_existent}
use Rattle.mms_types.specs.Order.{key_eq, key_of}
use Rattle.mms_types.specs.declared.journal.InitializeJournal.{InitializeJournal}
use Rattle.mms_types.specs.declared.journal.JournalEntry.{JournalEntry}
use Rattle.mms_types.specs.declared.journal.JournalLimit.{JournalLimit}
use Rattle.mms_types.specs.declared.journal.JournalStatus.{JournalStatus}
use Rattle.mms_types.specs.declared.journal.ReadJournal.{ReadJournal}
use Rattle.mms_types.specs.declared.journal.ReadJournalAnswer.{ReadJournalAnswer}
use Rattle.mms_types.specs.declared.key.Key.{Key}
use Rattle.mms_types.specs.declared.key.Scope.TheVariants.{Association}
use Rattle.mms_types.specs.declared.object_name.ObjectName.{ObjectName}
use Rattle.mms_types.specs.declared.refuse.Refuse.{Refuse}
use Rattle.mms_types.specs.declared.refuse.Refuse.TheVariants.{Service, Memory}
use Rattle.mms_types.specs.declared.service_error.ServiceError.{ServiceError}
use Rattle.object_names.specs.NewName.{new_name}
use Rattle.object_names.specs.Scopes.{without_all_of}
use Rattle.mms_journal.specs.Entries.{entry_length, moment_in, moment_of}
use Rattle.mms_journal.specs.Journals.{Log, Rows, changed, journal, most_entries, most_journals, most_octets, octets_in}
use Rattle.mms_journal.specs.Selection.{number_of, read}
use Rattle.mms_journal.specs.declared.journal.Written.{Written}

-- the one cause of most services: the journal is missing
abbrev pub missing_cause : ℕ → ObjectName → Rows → Option ServiceError
missing_cause client name rows = first_of ((is_none (journal client name rows), object_non_existent) ∷ [])

-- ---- CreateJournal

-- why no journal is made, with whether the domain of its scope is live
abbrev pub create_cause : Bool → ℕ → ObjectName → Rows → Option ServiceError
create_cause live client name rows =
    first_of (new_name live name (is_some (journal client name rows)) ++ (nat_le most_journals (length rows), capability_unavailable) ∷ [])

-- a new journal has no entries, and its first will have number 1
abbrev pub created : Log
created = record { entries = []; written = 0 }

abbrev pub after_create : ℕ → ObjectName → Rows → Rows
after_create client name rows = rows ++ (key_of client name, created) ∷ []

-- ---- DeleteJournal

abbrev pub without : Key → Rows → Rows
without key rows = remove_entry (key_eq key) rows

abbrev pub after_delete : ℕ → ObjectName → Rows → Rows
after_delete client name rows = without (key_of client name) rows

-- ---- ReportJournalStatus: whatever a client made can be deleted

abbrev pub status_of : Log → JournalStatus
status_of j = record { entries = length j.entries; deletable = true }

abbrev pub status : ℕ → ObjectName → Rows → Option JournalStatus
status client name rows = option_map status_of (journal client name rows)

-- ---- WriteJournal: all of the entries or none

-- with the numbers that come after that one
abbrev pub numbered : ℕ → ℕ → List JournalEntry → List Written
numbered client number [] = []
numbered client number (entry ∷ entries) = record { number = number + 1; client = client; entry = entry } ∷ numbered client (number + 1) entries

-- the entries of a journal, or their octets, would be too many
abbrev pub has_no_number : List JournalEntry → Log → Bool
has_no_number entries j = nat_lt most_entries (length j.entries + length entries)

abbrev pub has_no_room : List JournalEntry → Log → Bool
has_no_room entries j = nat_lt most_octets (octets_in j.entries + sum_by entry_length entries)

abbrev pub write_cause : ℕ → ObjectName → List JournalEntry → Rows → Option ServiceError
write_cause client name entries rows = first_of (
    (is_none (journal client name rows), object_non_existent)
    ∷ (option_map_or (has_no_number entries) (journal client name rows) true, capability_unavailable)
    ∷ (option_map_or (has_no_room entries) (journal client name rows) true, capability_unavailable)
    ∷ [])

-- those of these causes that are looked for before the entries are spelled
abbrev pub early_cause : ℕ → ObjectName → List JournalEntry → Rows → Option ServiceError
early_cause client name entries rows = first_of (
    (is_none (journal client name rows), object_non_existent)
    ∷ (option_map_or (has_no_number entries) (journal client name rows) true, capability_unavailable)
    ∷ [])

abbrev pub written_by : ℕ → List JournalEntry → Log → Log
written_by client entries j = record {
  entries = j.entries ++ numbered client j.written entries;
  written = j.written + length entries;
}

abbrev pub after_write : ℕ → ObjectName → List JournalEntry → Rows → Rows
after_write client name entries rows = changed (key_of client name) (written_by client entries) rows

-- it is refused exactly where a condition holds against it, and else tells the entries; memory may be wanting before their octets are known
abbrev pub IsPrepared : Result (List JournalEntry) Refuse → Option ServiceError → List JournalEntry → Type 0
IsPrepared (Ok prepared) cause entries = (cause ≡ None) × (prepared ≡ entries)
IsPrepared (Err (Service error)) cause entries = cause ≡ Some error
IsPrepared (Err Memory) cause entries = ⊤

-- ---- InitializeJournal

-- the entry goes: all do, or those of a moment, or of an earlier one, and of these, where a number is given, those of it, or of a lower one
abbrev pub goes : Option JournalLimit → Written → Bool
goes None w = true
goes (Some limit) w =
    nat_le (moment_in w.entry) (moment_of limit.time) && option_map_or (λ number. nat_le w.number (number_of number)) limit.number true

-- numbers go on after it
abbrev pub initialized : Option JournalLimit → Log → Log
initialized limit j = record { entries = filter (λ w. not (goes limit w)) j.entries; written = j.written }

abbrev pub after_initialize : ℕ → InitializeJournal → Rows → Rows
after_initialize client asked rows = changed (key_of client asked.name) (initialized asked.limit) rows

-- how many entries go
abbrev pub removed_of : Option JournalLimit → Log → ℕ
removed_of limit j = length (filter (goes limit) j.entries)

abbrev pub removed : ℕ → InitializeJournal → Rows → Option ℕ
removed client asked rows = option_map (removed_of asked.limit) (journal client asked.name rows)

-- ---- ReadJournal

abbrev pub read_answer : ℕ → ReadJournal → Rows → Option ReadJournalAnswer
read_answer client asked rows = option_map (read asked) (journal client asked.name rows)

-- ---- the loss of a client: the journals of its association go, and its entries in others stay

abbrev pub without_client : ℕ → Rows → Rows
without_client client rows = without_all_of (Association client) rows
