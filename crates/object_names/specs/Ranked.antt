-- The rows of a table in order of their names: the VMD's, then each domain's, then each association's, and in one scope in order of octets.
use Rattle.std.specs.Prelude.{List}
use Rattle.std.specs.declared.cmp.Ordering.{Ordering}
use Rattle.mms_types.specs.declared.key.Key.{Key}
use Rattle.mms_types.specs.Order.{key_order}
use Rattle.object_names.specs.InOrder.{in_order, inserted}

-- the order of two rows: that of their names
abbrev pub row_order : {T : Type 0} → Key × T → Key × T → Ordering
row_order a b = key_order a.0 b.0

-- rows in order of names with one more at its place
abbrev pub insert_row : {T : Type 0} → Key × T → List (Key × T) → List (Key × T)
insert_row = inserted row_order

-- the rows in order of names
abbrev pub by_name : {T : Type 0} → List (Key × T) → List (Key × T)
by_name = in_order row_order
