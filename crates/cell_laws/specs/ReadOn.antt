-- A journal is read on, from an entry that was told (ISO 9506-2, ReadJournal: entryToStartAfter).
use Rattle.std.specs.Prelude.{Bool, true, false, Option, None, Some}
use Rattle.mms_types.specs.declared.journal.EntryToStartAfter.{EntryToStartAfter}
use Rattle.mms_types.specs.declared.journal.JournalStop.{JournalStop}
use Rattle.mms_types.specs.declared.journal.JournalStop.TheVariants.{Time, Count}
use Rattle.mms_types.specs.declared.journal.ReadJournal.{ReadJournal}

-- so many entries are asked for (numberOfEntries), which each request counts anew
abbrev pub is_counted : Option JournalStop → Bool
is_counted None = false
is_counted (Some (Time time)) = false
is_counted (Some (Count count)) = true

-- the same is asked for again, after that entry
abbrev pub reading_on : EntryToStartAfter → ReadJournal → ReadJournal
reading_on last asked = record asked { after = Some last }
