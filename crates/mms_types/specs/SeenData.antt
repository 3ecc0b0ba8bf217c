-- What the parts of a value are seen as.
use Rattle.mms_types.specs.declared.data.DataKind.{DataKind}
use Rattle.mms_types.specs.declared.data.DataKind.TheVariants as kind
use Rattle.mms_types.specs.Datum.{Datum, array, structure, boolean, bits, integer, unsigned, floating, octets, visible, time, row}

abbrev pub seen : DataKind → Datum
seen (kind.Array v) = array (row v.items)
seen (kind.Structure v) = structure (row v.items)
seen (kind.Boolean b) = boolean b
seen (kind.Bits b) = bits b.unused b.octets
seen (kind.Integer n) = integer n
seen (kind.Unsigned n) = unsigned n
seen (kind.Floating o) = floating o
seen (kind.Octets o) = octets o
seen (kind.Visible o) = visible o
seen (kind.Time o) = time o
