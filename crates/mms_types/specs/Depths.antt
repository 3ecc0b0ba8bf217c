-- How deep the data and the type in a request nest.
use Rattle.std.specs.Prelude.{ℕ, max, List, [], ◌∷◌, map, Option, Some, None}
use Rattle.mms_types.specs.declared.journal.EntryContent.{EntryContent}
use Rattle.mms_types.specs.declared.journal.EntryContent.TheVariants.{Data}
use Rattle.mms_types.specs.declared.journal.JournalEntry.{JournalEntry}
use Rattle.mms_types.specs.declared.journal.JournalVariable.{JournalVariable}
use Rattle.mms_types.specs.declared.journal.WriteJournal.{WriteJournal}
use Rattle.mms_types.specs.declared.variable.Write.{Write}
use Rattle.mms_types.specs.declared.variable.DefineNamedVariable.{DefineNamedVariable}
use Rattle.mms_types.specs.Datum.{row, depth, deepest}
use Rattle.mms_types.specs.Shape.{Shape, shape_depth}

-- the greatest depth of the data that is written, and 0 where there is none
abbrev pub write_depth : Write → ℕ
write_depth w = deepest (row w.values)

abbrev pub given_depth : Option Shape → ℕ
given_depth None = 0
given_depth (Some s) = shape_depth s

-- the depth of the type that is given, and 0 where none is
abbrev pub definition_depth : DefineNamedVariable → ℕ
definition_depth d = given_depth d.of

abbrev pub greatest : List ℕ → ℕ
greatest [] = 0
greatest (n ∷ ns) = max n (greatest ns)

abbrev pub variable_depth : JournalVariable → ℕ
variable_depth v = depth v.value

-- the greatest depth of the data of variables
abbrev pub variables_depth : List JournalVariable → ℕ
variables_depth variables = greatest (map variable_depth variables)

abbrev content_depth : EntryContent → ℕ
content_depth (Data event (Some variables)) = variables_depth variables
content_depth other = 0

-- that of an entry, and 0 where it has no variables
abbrev pub entry_depth : JournalEntry → ℕ
entry_depth e = content_depth e.content

abbrev pub entries_depth : List JournalEntry → ℕ
entries_depth entries = greatest (map entry_depth entries)

-- that of all entries that are written
abbrev pub journal_depth : WriteJournal → ℕ
journal_depth w = entries_depth w.entries
