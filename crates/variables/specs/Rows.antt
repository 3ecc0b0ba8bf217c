-- Cells and named variables, and what a specification names (ISO 9506-1, unnamed and named variables).
use Rattle.std.specs.Prelude.{ℕ, nat_eq, Bool, List, Option, Some, is_some}
use Rattle.std.specs.List.{list_all}
use Rattle.std.specs.Map.{lookup}
use Rattle.std.specs.Option.{option_map, option_and_then}
use Rattle.mms_types.specs.declared.key.Key.{Key}
use Rattle.mms_types.specs.declared.object_name.ObjectName.{ObjectName}
use Rattle.mms_types.specs.declared.variable.Spec.{Spec}
use Rattle.mms_types.specs.declared.variable.Spec.TheVariants as spec
use Rattle.mms_types.specs.Order.{key_eq, key_of}
use Rattle.variables.specs.declared.rows.StoredCell.{StoredCell}
use Rattle.variables.specs.declared.rows.Variable.{Variable}

-- the cells by their numbers, and the named variables by their names, each in the order in which they were made
pub record Rows : Type 0 where
  pub cells : List (ℕ × StoredCell)
  pub variables : List (Key × Variable)

-- the cell of that number
abbrev pub cell_at : ℕ → Rows → Option StoredCell
cell_at number rows = lookup (nat_eq number) rows.cells

-- the variable that a client names so
abbrev pub variable_named : ℕ → ObjectName → Rows → Option Variable
variable_named client name rows = lookup (key_eq (key_of client name)) rows.variables

-- the number that a specification tells: the address, or that of the named variable's cell (ISO 9506-2, VariableSpecification)
abbrev pub number_told : ℕ → Spec → Rows → Option ℕ
number_told client (spec.Address number) rows = Some number
number_told client (spec.Name name) rows = option_map (λ variable. variable.cell) (variable_named client name rows)

-- the cell that a client's specification names, and its number: none where the name or the cell is missing
abbrev pub cell_named : ℕ → Spec → Rows → Option StoredCell
cell_named client s rows = option_and_then (λ number. cell_at number rows) (number_told client s rows)

abbrev pub number_named : ℕ → Spec → Rows → Option ℕ
number_named client s rows = option_and_then (λ number. option_map (λ _. number) (cell_at number rows)) (number_told client s rows)

-- each of the variables has its name and its cell
abbrev pub are_there : ℕ → List Spec → Rows → Bool
are_there client variables rows = list_all (λ s. is_some (cell_named client s rows)) variables
