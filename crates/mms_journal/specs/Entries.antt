-- Entries of journals: when each took place, which texts its variables have, and how long it is (ISO 9506-2, JournalEntry).
use Rattle.std.specs.Prelude.{ℕ, nat_eq, Bool, List, [], Option, None, Some, filter, length}
use Rattle.std.specs.Cmp.Lexicographic.{pointwise}
use Rattle.std.specs.List.{list_any}
use Rattle.std.specs.Option.{option_map}
use Rattle.ber_forms.specs.Spelling.{spelling}
use Rattle.mms_types.specs.Moments.{milliseconds}
use Rattle.mms_types.specs.Spelling.{widest}
use Rattle.mms_types.specs.declared.condition.TimeOfDay.{TimeOfDay}
use Rattle.mms_types.specs.declared.journal.EntryContent.{EntryContent}
use Rattle.mms_types.specs.declared.journal.EntryContent.TheVariants.{Data, Text}
use Rattle.mms_types.specs.declared.journal.JournalEntry.{JournalEntry}
use Rattle.mms_types.specs.declared.journal.JournalVariable.{JournalVariable}
use Rattle.pdu_events.specs.Entries.{journal_entry}

-- the moment of a time, in milliseconds, whatever its six octets are
abbrev pub moment_of : TimeOfDay → ℕ
moment_of time = milliseconds time.day time.ms

-- the moment of an entry
abbrev pub moment_in : JournalEntry → ℕ
moment_in entry = moment_of entry.time

-- ---- tags

-- one of the tags is that one
abbrev pub is_among : List (List ℕ) → List ℕ → Bool
is_among tags tag = list_any (pointwise nat_eq tag) tags

-- the variables of an entry: none where they aren't given, and of a text
abbrev pub if_listed : Option (List JournalVariable) → List JournalVariable
if_listed None = []
if_listed (Some variables) = variables

abbrev pub variables_of : EntryContent → List JournalVariable
variables_of (Data event variables) = if_listed variables
variables_of (Text text) = []

-- a variable has one of the tags
abbrev pub is_tagged : List (List ℕ) → JournalVariable → Bool
is_tagged tags variable = is_among tags variable.tag

-- some variable of the entry has one of the tags
abbrev pub has_any : List (List ℕ) → JournalEntry → Bool
has_any tags entry = list_any (is_tagged tags) (variables_of entry.content)

-- the event, and those of the variables that have one of the tags, all of them and in order
abbrev pub content_shown : List (List ℕ) → EntryContent → EntryContent
content_shown tags (Data event variables) = Data event (option_map (filter (is_tagged tags)) variables)
content_shown tags (Text text) = Text text

abbrev pub entry_shown : List (List ℕ) → JournalEntry → JournalEntry
entry_shown tags entry = record { time = entry.time; content = content_shown tags entry.content }

-- ---- octets

-- the contents of an entry in output spelling, without a tag and a length around them
unfoldable pub entry_octets : JournalEntry → List ℕ
entry_octets entry = spelling (journal_entry.form widest) (journal_entry.value entry)

-- how many these are
abbrev pub entry_length : JournalEntry → ℕ
entry_length entry = length (entry_octets entry)
