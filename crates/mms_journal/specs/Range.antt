-- What is asked of an entry, in one test: of its number, and of the rest.
use Rattle.std.specs.Prelude.{◌≡◌, ℕ, nat_le, nat_lt, Bool, true, false, ◌&&◌, ◌||◌, List, Option, None, Some, filter, length, map, take}
use Rattle.mms_types.specs.declared.journal.EntryToStartAfter.{EntryToStartAfter}
use Rattle.mms_types.specs.declared.journal.JournalEntry.{JournalEntry}
use Rattle.mms_types.specs.declared.journal.JournalStart.{JournalStart}
use Rattle.mms_types.specs.declared.journal.JournalStart.TheVariants as start
use Rattle.mms_types.specs.declared.journal.JournalStop.{JournalStop}
use Rattle.mms_types.specs.declared.journal.JournalStop.TheVariants as stop
use Rattle.mms_types.specs.declared.journal.ReadJournal.{ReadJournal}
use Rattle.mms_types.specs.declared.journal.ReadJournalAnswer.{ReadJournalAnswer}
use Rattle.mms_journal.specs.Entries.{has_any, moment_in, moment_of}
use Rattle.mms_journal.specs.Selection.{listed, most_told, number_of, told}
use Rattle.mms_journal.specs.declared.journal.Written.{Written}
use Rattle.mms_journal.specs.declared.reading.Range.{Range}

-- the number comes before those that are asked for
abbrev pub is_below : Option JournalStart → ℕ → Bool
is_below None number = false
is_below (Some (start.Time time)) number = false
is_below (Some (start.Entry first)) number = nat_lt number (number_of first)

abbrev pub is_passed : Option EntryToStartAfter → ℕ → Bool
is_passed None number = false
is_passed (Some after) number = nat_le number (number_of after.number)

abbrev pub is_before : Option JournalStart → Option EntryToStartAfter → ℕ → Bool
is_before start after number = is_below start number || is_passed after number

-- the least moment that is asked for, and the greatest, where one is
abbrev pub since_of : Option JournalStart → ℕ
since_of None = 0
since_of (Some (start.Time time)) = moment_of time
since_of (Some (start.Entry first)) = 0

abbrev pub until_of : Option JournalStop → Option ℕ
until_of None = None
until_of (Some (stop.Time time)) = Some (moment_of time)
until_of (Some (stop.Count count)) = None

-- how many entries are asked for, where that is said
abbrev pub count_of : Option JournalStop → Option ℕ
count_of None = None
count_of (Some (stop.Time time)) = None
count_of (Some (stop.Count count)) = Some count

abbrev pub is_by : Option ℕ → ℕ → Bool
is_by None moment = true
is_by (Some until) moment = nat_le moment until

abbrev pub has_wanted : Option (List (List ℕ)) → JournalEntry → Bool
has_wanted None entry = true
has_wanted (Some tags) entry = has_any tags entry

abbrev pub in_range : Range → Written → Bool
in_range range w = nat_le range.since (moment_in w.entry) && (is_by range.until (moment_in w.entry) && has_wanted range.tags w.entry)

pub record IsRangeOf (asked : ReadJournal) (range : Range) : Type 0 where
  pub since : range.since ≡ since_of asked.start
  pub until : range.until ≡ until_of asked.stop
  pub tags : range.tags ≡ listed asked.tags

-- the first so many of those in range, and the first of these
abbrev pub if_counted : Option ℕ → List Written → List Written
if_counted None entries = entries
if_counted (Some count) entries = take count entries

abbrev pub first_counted : Range → Option ℕ → List Written → ReadJournalAnswer
first_counted range count entries = record {
  entries = map (told range.tags) (take most_told (if_counted count (filter (in_range range) entries)));
  more = nat_lt most_told (length (if_counted count (filter (in_range range) entries)));
}
