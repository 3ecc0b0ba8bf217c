-- What names are told, defined and deleted (ISO 9506-2, GetVariableAccessAttributes, DefineNamedVariable, DeleteVariableAccess).
use Rattle.std.specs.Prelude.{ℕ, nat_le, Bool, true, false, not, [], ◌∷◌, ◌++◌, Option, None, Some, is_some, is_none, length}
use Rattle.std.specs.Option.{option_map, option_and_then}
use Rattle.mms_types.specs.Shape.{Shape}
use Rattle.mms_types.specs.Equal.{shape_eq}
use Rattle.mms_types.specs.Errors.{first_of, invalid_address, type_inconsistent, capability_unavailable}
use Rattle.mms_types.specs.Order.{key_of}
use Rattle.mms_types.specs.declared.key.Key.{Key}
use Rattle.mms_types.specs.declared.service_error.ServiceError.{ServiceError}
use Rattle.mms_types.specs.declared.variable.Spec.{Spec}
use Rattle.mms_types.specs.declared.variable.Spec.TheVariants as spec
use Rattle.mms_types.specs.declared.variable.DefineNamedVariable.{DefineNamedVariable}
use Rattle.mms_types.specs.declared.variable.VariableAttributes.{VariableAttributes}
use Rattle.mms_types.specs.declared.key.Scope.TheVariants.{Association}
use Rattle.mms_types.specs.declared.variable.Deleted.{Deleted}
use Rattle.object_names.specs.Deletion.{matched, deleted, left}
use Rattle.object_names.specs.NewName.{new_name}
use Rattle.object_names.specs.Scopes.{without_all_of}
use Rattle.variables.specs.declared.rows.StoredCell.{StoredCell}
use Rattle.variables.specs.declared.rows.Variable.{Variable}
use Rattle.variables.specs.Rows.{Rows, cell_at, variable_named}

-- ---- what a variable is

-- a cell can't be deleted, and its address isn't told to who gives it
abbrev pub attributes_of_cell : StoredCell → VariableAttributes
attributes_of_cell cell = record { deletable = false; address = None; of = cell.of }

-- a named variable can be deleted unless it was configured
abbrev pub attributes_of_name : Variable → StoredCell → VariableAttributes
attributes_of_name variable cell = record { deletable = not variable.configured; address = Some variable.cell; of = cell.of }

-- none where the name or the cell is missing
abbrev pub attributes : ℕ → Spec → Rows → Option VariableAttributes
attributes client (spec.Address number) rows = option_map attributes_of_cell (cell_at number rows)
attributes client (spec.Name name) rows = option_and_then (λ variable. option_map (attributes_of_name variable) (cell_at variable.cell rows)) (variable_named client name rows)

-- ---- a new name

-- the most variables with a name (this profile's limit)
abbrev pub most_variables : ℕ
most_variables = 4096

-- a type is given, and isn't that of the cell
abbrev pub has_other_type : Option Shape → Option StoredCell → Bool
has_other_type (Some shape) (Some cell) = not (shape_eq shape cell.of)
has_other_type (Some shape) None = true
has_other_type None cell = false

-- why a name is not defined, with whether the domain of its scope is live
abbrev pub define_cause : Bool → ℕ → DefineNamedVariable → Rows → Option ServiceError
define_cause live client asked rows =
    first_of (new_name live asked.name (is_some (variable_named client asked.name rows)) ++
    (is_none (cell_at asked.address rows), invalid_address)
    ∷ (has_other_type asked.of (cell_at asked.address rows), type_inconsistent)
    ∷ (nat_le most_variables (length rows.variables), capability_unavailable)
    ∷ [])

abbrev pub defined : ℕ → DefineNamedVariable → Rows → Rows
defined client asked rows = record rows { variables = rows.variables ++ (key_of client asked.name, record { cell = asked.address; configured = false }) ∷ [] }

-- ---- deletion, and the loss of a client

-- a configured variable stays
abbrev pub is_fixed : Variable → Bool
is_fixed variable = variable.configured

-- how many variables are selected, and how many of them are deleted
abbrev pub deletion : (Key → Bool) → Rows → Deleted
deletion selected rows = record { matched = matched selected rows.variables; deleted = deleted is_fixed selected rows.variables }

abbrev pub without : (Key → Bool) → Rows → Rows
without selected rows = record rows { variables = left is_fixed selected rows.variables }

-- a client that is lost takes the names of its association with it
abbrev pub without_client : ℕ → Rows → Rows
without_client client rows = record rows { variables = without_all_of (Association client) rows.variables }
