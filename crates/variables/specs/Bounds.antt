-- The numbers of cells are those of 16 bits; and whether there are guards at all.
use Rattle.std.specs.Prelude.{ℕ, ◌<◌, Bool, is_some, List, [], ◌∷◌}
use Rattle.std.specs.List.{list_any}
use Rattle.variables.specs.declared.rows.StoredCell.{StoredCell}

abbrev pub AreSmall : List (ℕ × StoredCell) → Type 0
AreSmall [] = Unit {0}
AreSmall (row ∷ rows) = (row.0 < 65536) × AreSmall rows

-- some cell has a guard
abbrev pub has_guard : List (ℕ × StoredCell) → Bool
has_guard cells = list_any (λ row. is_some row.1.guard) cells
