-- Names that stand in order of octets.
use Rattle.std.specs.Prelude.{ℕ, List}
use Rattle.mms_types.specs.Order.{name_order}
use Rattle.object_names.proofs.InOrder as order

-- how many times the second name comes before the first: once or not at all
abbrev pub before : List ℕ → List ℕ → ℕ
before = order.before name_order

-- none of the names behind one comes before it
abbrev pub IsOrdered : List (List ℕ) → Type 0
IsOrdered = order.IsOrdered name_order
