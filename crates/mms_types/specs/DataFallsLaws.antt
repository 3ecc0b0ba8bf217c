-- Each part of a value nests less deep than the value.
use Rattle.std.specs.Prelude.{◌≡◌, ◌≤◌, ◌+◌, ◌*◌, max, List, [], ◌∷◌}
use Rattle.std.proofs.Common.{refl, arith}
use denote.Param.Weighed.{most}
use Rattle.mms_types.specs.declared.data.DataKind.{DataKind}
use Rattle.mms_types.specs.declared.data.DataKind.TheVariants as kind
use Rattle.mms_types.specs.declared.data.Data.TheDeep.{deep-DataKind, size-Data}
use Rattle.mms_types.specs.Datum.{Datum, row, depth, deepest}
use Rattle.mms_types.specs.SeenData.{seen}

pub most_le-deepest : (xs : List Datum) → most (λ x. depth x + 1) xs ≤ deepest (row xs) + 1
most_le-deepest [] = omega arith
most_le-deepest (x ∷ xs) = omega (arith, most_le-deepest xs)

pub deep_le-depth : (k : DataKind) → max (deep-DataKind k) 0 ≤ depth (seen k)
deep_le-depth (kind.Array v) = omega (arith, most_le-deepest v.items)
deep_le-depth (kind.Structure v) = omega (arith, most_le-deepest v.items)
deep_le-depth (kind.Boolean b) = omega arith
deep_le-depth (kind.Bits b) = omega arith
deep_le-depth (kind.Integer n) = omega arith
deep_le-depth (kind.Unsigned n) = omega arith
deep_le-depth (kind.Floating o) = omega arith
deep_le-depth (kind.Octets o) = omega arith
deep_le-depth (kind.Visible o) = omega arith
deep_le-depth (kind.Time o) = omega arith

size_is : (x : Datum) → size-Data x ≡ 2 * (depth x + 1) + 0
size_is x = refl

-- the greatest size of a list of values, as a recursion over them falls by it
pub sizes_below : (xs : List Datum) → most (λ x. size-Data x) xs ≤ 2 * (deepest (row xs) + 1)
sizes_below [] = omega arith
sizes_below (x ∷ xs) = omega (arith, size_is x, sizes_below xs)
