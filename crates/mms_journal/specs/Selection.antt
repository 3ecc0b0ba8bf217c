-- Which entries of a journal are read: each condition is a filter of the list, one after the other, and the number of entries comes last (ISO 9506-2,
-- ReadJournal-Request).
use Rattle.std.specs.Prelude.{ℕ, nat_le, nat_lt, List, [], ◌∷◌, Option, None, Some, filter, length, map, take}
use Rattle.std.specs.Int.{w64, from_be_bytes, to_be_bytes}
use Rattle.mms_types.specs.declared.journal.EntryToStartAfter.{EntryToStartAfter}
use Rattle.mms_types.specs.declared.journal.JournalEntry.{JournalEntry}
use Rattle.mms_types.specs.declared.journal.JournalStart.{JournalStart}
use Rattle.mms_types.specs.declared.journal.JournalStart.TheVariants as start
use Rattle.mms_types.specs.declared.journal.JournalStop.{JournalStop}
use Rattle.mms_types.specs.declared.journal.JournalStop.TheVariants as stop
use Rattle.mms_types.specs.declared.journal.ReadEntry.{ReadEntry}
use Rattle.mms_types.specs.declared.journal.ReadJournal.{ReadJournal}
use Rattle.mms_types.specs.declared.journal.ReadJournalAnswer.{ReadJournalAnswer}
use Rattle.mms_types.specs.declared.semaphore.EntryNumber.{EntryNumber}
use Rattle.mms_journal.specs.Entries.{entry_shown, has_any, moment_in, moment_of}
use Rattle.mms_journal.specs.Journals.{Log}
use Rattle.mms_journal.specs.declared.journal.Written.{Written}

-- the number that eight octets spell, the most significant one first: it has no sign
abbrev pub number_of : EntryNumber → ℕ
number_of number = from_be_bytes w64 number.octets

-- ---- the conditions

-- those of a moment, or of a later one (startingTime)
abbrev pub since : ℕ → List Written → List Written
since moment entries = filter (λ w. nat_le moment (moment_in w.entry)) entries

-- those of a number, or of a greater one (startingEntry)
abbrev pub from_number : ℕ → List Written → List Written
from_number number entries = filter (λ w. nat_le number w.number) entries

-- those of a moment, or of an earlier one (endingTime)
abbrev pub until : ℕ → List Written → List Written
until moment entries = filter (λ w. nat_le (moment_in w.entry) moment) entries

-- those of greater numbers (entryToStartAfter)
abbrev pub after_number : ℕ → List Written → List Written
after_number number entries = filter (λ w. nat_lt number w.number) entries

-- those with at least one of the tags (listOfVariables)
abbrev pub with_tags : List (List ℕ) → List Written → List Written
with_tags tags entries = filter (λ w. has_any tags w.entry) entries

-- ---- each where it is asked for

abbrev pub started : Option JournalStart → List Written → List Written
started None entries = entries
started (Some (start.Time time)) entries = since (moment_of time) entries
started (Some (start.Entry number)) entries = from_number (number_of number) entries

abbrev pub stopped : Option JournalStop → List Written → List Written
stopped None entries = entries
stopped (Some (stop.Time time)) entries = until (moment_of time) entries
stopped (Some (stop.Count count)) entries = entries

-- the time of that entry has no effect
abbrev pub followed : Option EntryToStartAfter → List Written → List Written
followed None entries = entries
followed (Some after) entries = after_number (number_of after.number) entries

-- an empty list of tags filters nothing, and hides nothing
abbrev pub listed : Option (List (List ℕ)) → Option (List (List ℕ))
listed None = None
listed (Some []) = None
listed (Some (tag ∷ tags)) = Some (tag ∷ tags)

abbrev pub tagged : Option (List (List ℕ)) → List Written → List Written
tagged None entries = entries
tagged (Some tags) entries = with_tags tags entries

-- the first so many of those that are left (numberOfEntries)
abbrev pub counted : Option JournalStop → List Written → List Written
counted None entries = entries
counted (Some (stop.Time time)) entries = entries
counted (Some (stop.Count count)) entries = take count entries

abbrev pub selected : ReadJournal → List Written → List Written
selected asked entries = counted asked.stop (tagged (listed asked.tags) (followed asked.after (stopped asked.stop (started asked.start entries))))

-- ---- what is told

-- where tags are listed, the variables of these tags alone
abbrev pub shown : Option (List (List ℕ)) → JournalEntry → JournalEntry
shown None entry = entry
shown (Some tags) entry = entry_shown tags entry

-- an entry with its number, in eight octets, and the client that wrote it
abbrev pub told : Option (List (List ℕ)) → Written → ReadEntry
told tags w = record { number = to_be_bytes w64 w.number; client = w.client; entry = shown tags w.entry }

-- the most entries that are told at once (this profile's limit)
abbrev pub most_told : ℕ
most_told = 16

-- the first of those that are selected, and whether there are more
abbrev pub read : ReadJournal → Log → ReadJournalAnswer
read asked j = record {
  entries = map (told (listed asked.tags)) (take most_told (selected asked j.entries));
  more = nat_lt most_told (length (selected asked j.entries));
}
