-- The values that cells get by a write.
use Rattle.std.specs.Prelude.{ℕ, Bool, true, false, List, [], ◌∷◌, Option, None, Some}
use Rattle.mms_types.specs.Datum.{Datum}
use Rattle.mms_types.specs.declared.access_result.WriteResult.{WriteResult}
use Rattle.mms_types.specs.declared.access_result.WriteResult.TheVariants as write
use Rattle.mms_types.specs.declared.variable.Spec.{Spec}
use Rattle.variables.specs.declared.rows.StoredCell.{StoredCell}
use Rattle.variables.specs.declared.rows.NewValue.{NewValue}
use Rattle.variables.specs.Access.{change_cell, result_of}
use Rattle.variables.specs.Rows.{Rows, number_named}

abbrev pub with_data : Datum → StoredCell → StoredCell
with_data value cell = record cell { value = value }

-- the cell of that number gets the value, and all others are as before
abbrev pub with_new_value : NewValue → Rows → Rows
with_new_value x rows = record rows { cells = change_cell x.cell (with_data x.value) rows.cells }

-- one value after the other
abbrev pub with_new_values : List NewValue → Rows → Rows
with_new_values [] rows = rows
with_new_values (x ∷ xs) rows = with_new_values xs (with_new_value x rows)

-- a variable takes its data
abbrev pub is_success : WriteResult → Bool
is_success (write.Failure error) = false
is_success write.Success = true

-- the value that its cell gets then
abbrev pub new_where : Bool → Datum → Option ℕ → List NewValue
new_where true value (Some number) = record { cell = number; value = value } ∷ []
new_where true value None = []
new_where false value number = []

abbrev pub new_of : ℕ → Rows → Bool × (Spec × Datum) → List NewValue
new_of client rows x = new_where (is_success (result_of client rows x)) x.1.1 (number_named client x.1.0 rows)
