-- The variables of a device at its start, as it is configured.
use Rattle.std.specs.Prelude.{ℕ, nat_eq, ◌≤◌, true, List, map, length}
use Rattle.std.specs.List.{IsDistinct}
use Rattle.std.specs.Cmp.Lexicographic.{pointwise}
use Rattle.mms_types.specs.declared.cells.CellRow.{CellRow}
use Rattle.mms_types.specs.declared.cells.NamedCell.{NamedCell}
use Rattle.mms_types.specs.declared.key.Key.{Key}
use Rattle.mms_types.specs.declared.key.Scope.TheVariants.{Vmd}
use Rattle.variables.specs.declared.rows.StoredCell.{StoredCell}
use Rattle.variables.specs.declared.rows.Variable.{Variable}
use Rattle.variables.specs.Rows.{Rows}

-- a cell has its type, its first value, and its guard, where it has one
abbrev pub cell_row : CellRow → ℕ × StoredCell
cell_row row = (row.number, record { of = row.of; value = row.value; guard = row.guard })

-- a configured variable is a name of the VMD
abbrev pub variable_row : NamedCell → Key × Variable
variable_row row = (record { scope = Vmd; item = row.name }, record { cell = row.cell; configured = true })

abbrev pub start : List CellRow → List NamedCell → Rows
start cells named = record { cells = map cell_row cells; variables = map variable_row named }

-- no two cells have the same number, no two variables the same name, and there are no more of these than may be
pub record AreApart (cells : List CellRow) (named : List NamedCell) : Type 0 where
  pub numbers : IsDistinct nat_eq (map (λ row. row.number) cells)
  pub names : IsDistinct (pointwise nat_eq) (map (λ row. row.name) named)
  pub few : length named ≤ 4096
