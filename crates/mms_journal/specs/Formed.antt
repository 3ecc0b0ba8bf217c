-- Which entries are of their form: texts have octets of VisibleString alone, and bit strings no unused bit that is set. Of what types allow nothing else
-- can be amiss.
use Rattle.std.specs.Prelude.{◌≤◌, ⊤, pos, All, IfSome, IsTrue, List}
use Rattle.ber_forms.specs.Fits.{Fits}
use Rattle.ber_forms.specs.Form.{are_visible, bit_string, int64, unsigned32}
use Rattle.ber_forms.specs.Value as value
use Rattle.mms_types.specs.Datum.{Datum, Row, array, structure, boolean, bits, integer, unsigned, floating, octets, visible, time, no_part, part, depth}
use Rattle.mms_types.specs.declared.identifier.Edition.TheVariants.{Two}
use Rattle.mms_types.specs.declared.journal.EntryContent.{EntryContent}
use Rattle.mms_types.specs.declared.journal.EntryContent.TheVariants.{Data, Text}
use Rattle.mms_types.specs.declared.journal.JournalEvent.{JournalEvent}
use Rattle.mms_types.specs.declared.journal.JournalVariable.{JournalVariable}
use Rattle.pdu_names.specs.Kinds.{IsOf, choice}
use Rattle.pdu_names.specs.Names.{names}

abbrev mutual
  pub IsFormed : Datum → Type 0
  IsFormed (array r) = AreFormed r
  IsFormed (structure r) = AreFormed r
  IsFormed (boolean b) = ⊤
  IsFormed (bits u o) = Fits bit_string (value.bits u o)
  IsFormed (integer n) = Fits int64 (value.number n)
  IsFormed (unsigned n) = Fits unsigned32 (value.number (pos n))
  IsFormed (floating o) = ⊤
  IsFormed (octets o) = ⊤
  IsFormed (visible o) = IsTrue (are_visible o)
  IsFormed (time o) = ⊤

  pub AreFormed : Row → Type 0
  AreFormed no_part = ⊤
  AreFormed (part x r) = IsFormed x × AreFormed r

pub record IsVariable (v : JournalVariable) : Type 0 where
  pub tag : IsTrue (are_visible v.tag)
  pub value : IsFormed v.value
  pub deep : depth v.value ≤ 10

abbrev pub AreVariables : List JournalVariable → Type 0
AreVariables variables = All IsVariable variables

abbrev pub IsEvent : JournalEvent → Type 0
IsEvent event = IsOf (choice names) Two event.name

abbrev pub IsContent : EntryContent → Type 0
IsContent (Data event variables) = IfSome event IsEvent × IfSome variables AreVariables
IsContent (Text text) = IsTrue (are_visible text)
