-- Lists of variables: what a list has, how it is defined and deleted (ISO 9506-2, DefineNamedVariableList, GetNamedVariableListAttributes,
-- DeleteNamedVariableList).
use Rattle.std.specs.Prelude.{ℕ, nat_le, Bool, true, false, not, List, [], ◌∷◌, ◌++◌, Option, is_some, length}
use Rattle.std.specs.Map.{lookup}
use Rattle.std.specs.Option.{option_map}
use Rattle.mms_types.specs.Errors.{first_of, object_non_existent, capability_unavailable}
use Rattle.mms_types.specs.Order.{key_eq, key_of}
use Rattle.mms_types.specs.declared.key.Key.{Key}
use Rattle.mms_types.specs.declared.key.Scope.TheVariants.{Association}
use Rattle.mms_types.specs.declared.object_name.ObjectName.{ObjectName}
use Rattle.mms_types.specs.declared.service_error.ServiceError.{ServiceError}
use Rattle.mms_types.specs.declared.variable.Spec.{Spec}
use Rattle.mms_types.specs.declared.variable.DefineNamedVariableList.{DefineNamedVariableList}
use Rattle.mms_types.specs.declared.variable.Deleted.{Deleted}
use Rattle.mms_types.specs.declared.variable.ListAttributes.{ListAttributes}
use Rattle.object_names.specs.Deletion.{matched, deleted, left}
use Rattle.object_names.specs.NewName.{new_name}
use Rattle.object_names.specs.Scopes.{without_all_of}
use Rattle.variable_lists.specs.declared.row.VariableList.{VariableList}

-- the lists under their names, in the order in which they were defined
abbrev pub Rows : Type 0
Rows = List (Key × VariableList)

-- the variables of the list that a client names so, as they were given: none where it is missing
abbrev pub members : ℕ → ObjectName → Rows → Option (List Spec)
members client name rows = option_map (λ list. list.variables) (lookup (key_eq (key_of client name)) rows)

-- a list is made by a client, and so it can be deleted
abbrev pub attributes : ℕ → ObjectName → Rows → Option ListAttributes
attributes client name rows = option_map (λ variables. record { deletable = true; variables = variables }) (members client name rows)

-- the most lists (this profile's limit)
abbrev pub most_lists : ℕ
most_lists = 256

-- why a list is not defined, with whether the domain of its scope is live, and whether each of its variables has its name and its cell
abbrev pub define_cause : Bool → Bool → ℕ → DefineNamedVariableList → Rows → Option ServiceError
define_cause live there client asked rows =
    first_of (new_name live asked.name (is_some (members client asked.name rows)) ++
    (not there, object_non_existent)
    ∷ (nat_le most_lists (length rows), capability_unavailable)
    ∷ [])

-- it keeps its variables as they were given
abbrev pub defined : ℕ → DefineNamedVariableList → Rows → Rows
defined client asked rows = rows ++ (key_of client asked.name, record { variables = asked.variables }) ∷ []

abbrev pub is_fixed : VariableList → Bool
is_fixed list = false

-- how many lists are selected, and how many of them are deleted: all
abbrev pub deletion : (Key → Bool) → Rows → Deleted
deletion selected rows = record { matched = matched selected rows; deleted = deleted is_fixed selected rows }

abbrev pub without : (Key → Bool) → Rows → Rows
without selected rows = left is_fixed selected rows

-- a client that is lost takes the lists of its association with it
abbrev pub without_client : ℕ → Rows → Rows
without_client client rows = without_all_of (Association client) rows
