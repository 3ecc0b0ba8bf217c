-- Cells that are boolean, as event conditions watch them (ISO 9506-1, event condition, monitored variable).
use Rattle.std.specs.Prelude.{ℕ, Bool, Option, None, Some}
use Rattle.std.specs.Option.{option_and_then}
use Rattle.mms_types.specs.Datum.{Datum, boolean}
use Rattle.mms_types.specs.declared.condition.CellFact.{CellFact}
use Rattle.mms_types.specs.declared.condition.CellFact.TheVariants.{Missing, Other, Found}
use Rattle.mms_types.specs.declared.variable.Spec.{Spec}
use Rattle.variables.specs.Rows.{Rows, cell_at, number_named}

-- the truth value that a value is: none where it isn't boolean
abbrev pub truth_of : Datum → Option Bool
truth_of (boolean b) = Some b
truth_of x = None

-- what the cell of that number says: none where it is missing or isn't boolean
abbrev pub truth_at : ℕ → Rows → Option Bool
truth_at number rows = option_and_then (λ cell. truth_of cell.value) (cell_at number rows)

abbrev pub fact_of : ℕ → Option Bool → CellFact
fact_of number None = Other
fact_of number (Some says) = Found number says

abbrev pub fact_at : Option ℕ → Rows → CellFact
fact_at None rows = Missing
fact_at (Some number) rows = fact_of number (truth_at number rows)

-- what becomes of the cell that a client's specification names, for a condition that is to watch it: its name or itself is missing, it isn't boolean,
-- or its number and what it says
abbrev pub cell_fact : ℕ → Spec → Rows → CellFact
cell_fact client s rows = fact_at (number_named client s rows) rows
