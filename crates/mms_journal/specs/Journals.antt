-- Journals: the entries of each in order of writing, with their numbers and who wrote them (ISO 9506-1, journal object).
use Rattle.std.specs.Prelude.{ℕ, ◌<◌, ◌≤◌, List, [], ◌∷◌, Option, length, sum_by}
use Rattle.std.specs.Map.{lookup, set_value}
use Rattle.std.specs.Option.{option_map_or}
use Rattle.mms_types.specs.Order.{key_eq, key_of}
use Rattle.mms_types.specs.declared.key.Key.{Key}
use Rattle.mms_types.specs.declared.object_name.ObjectName.{ObjectName}
use Rattle.mms_journal.specs.Entries.{entry_length}
use Rattle.mms_journal.specs.declared.journal.Written.{Written}

-- the entries in order of writing, each with its number and the client that wrote it, and how many were written, also those that are gone
pub record Log : Type 0 where
  pub entries : List Written
  pub written : ℕ

-- journals under their names, in the order in which they were made
abbrev pub Rows : Type 0
Rows = List (Key × Log)

-- the journal of that name, and the one that a client names so
abbrev pub named : Key → Rows → Option Log
named key rows = lookup (key_eq key) rows

abbrev pub journal : ℕ → ObjectName → Rows → Option Log
journal client name rows = named (key_of client name) rows

-- the journal of that name is changed so, where it is there, and all others are as before
abbrev pub changed : Key → (Log → Log) → Rows → Rows
changed key f rows = option_map_or (λ j. set_value (key_eq key) rows (f j)) (named key rows) rows

-- how many octets the entries have: the sum of their contents in output spelling (this profile's choice)
abbrev pub length_of : Written → ℕ
length_of w = entry_length w.entry

abbrev pub octets_in : List Written → ℕ
octets_in entries = sum_by length_of entries

-- the most journals, and the most entries and octets of each (this profile's limits)
abbrev pub most_journals : ℕ
most_journals = 64

abbrev pub most_entries : ℕ
most_entries = 65536

abbrev pub most_octets : ℕ
most_octets = 16777216

-- ---- what holds of every journal

-- numbers rise, beginning above the first bound, and are at most the second
abbrev pub Rises : ℕ → List Written → ℕ → Type 0
Rises low [] high = low ≤ high
Rises low (w ∷ ws) high = (low < w.number) × Rises w.number ws high

pub record IsJournal (j : Log) : Type 0 where
  -- numbers begin with 1, each is greater than those before it, and none is greater than how many were written
  pub rises : Rises 0 j.entries j.written
  pub few : length j.entries ≤ most_entries
  pub short : octets_in j.entries ≤ most_octets
