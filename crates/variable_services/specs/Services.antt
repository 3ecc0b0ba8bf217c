-- The services for variables and variable lists: why each is refused, what it answers, and the tables after it (ISO 9506-1 and ISO 9506-2,
-- variable access).
use Rattle.std.specs.Prelude.{ℕ, nat_eq, Bool, true, false, not, ◌&&◌, List, [], ◌∷◌, Option, None, Some, is_none, unwrap_or, length, if◌then◌else◌, Result, Ok, Err}
use Rattle.std.specs.List.{zip}
use Rattle.mms_types.specs.Datum.{Datum}
use Rattle.mms_types.specs.Errors.{first_of, type_inconsistent, object_non_existent}
use Rattle.mms_types.specs.declared.access_result.WriteResult.{WriteResult}
use Rattle.mms_types.specs.declared.cells.CellRow.{CellRow}
use Rattle.mms_types.specs.declared.cells.NamedCell.{NamedCell}
use Rattle.mms_types.specs.declared.object_name.ObjectName.{ObjectName}
use Rattle.mms_types.specs.declared.service_error.ServiceError.{ServiceError}
use Rattle.mms_types.specs.declared.variable.Access.{Access}
use Rattle.mms_types.specs.declared.variable.Access.TheVariants as access
use Rattle.mms_types.specs.declared.variable.DefineNamedVariable.{DefineNamedVariable}
use Rattle.mms_types.specs.declared.variable.DefineNamedVariableList.{DefineNamedVariableList}
use Rattle.mms_types.specs.declared.variable.DeleteNames.{DeleteNames}
use Rattle.mms_types.specs.declared.variable.DeleteScope.{DeleteScope}
use Rattle.mms_types.specs.declared.variable.DeleteScope.TheVariants as scope
use Rattle.mms_types.specs.declared.variable.Deleted.{Deleted}
use Rattle.mms_types.specs.declared.variable.ListAttributes.{ListAttributes}
use Rattle.mms_types.specs.declared.variable.Read.{Read}
use Rattle.mms_types.specs.declared.variable.ReadAnswer.{ReadAnswer}
use Rattle.mms_types.specs.declared.variable.Spec.{Spec}
use Rattle.mms_types.specs.declared.variable.VariableAttributes.{VariableAttributes}
use Rattle.mms_types.specs.declared.variable.Write.{Write}
use Rattle.object_names.specs.Deletion.{selects}
use Rattle.variables.specs.Access.{flagged, flags_of, reads, writes}
use Rattle.variables.specs.Access as cells
use Rattle.variables.specs.NewValues as news
use Rattle.variables.specs.declared.rows.NewValue.{NewValue}
use Rattle.variables.specs.Definitions as variables
use Rattle.variables.specs.Rows as rows
use Rattle.variables.specs.Start.{start}
use Rattle.variable_lists.specs.Lists as lists
use Rattle.variable_services.specs.declared.tables.VariableTables.{VariableTables}

-- the variables that an access names: those that it specifies, or those of a list, as they were given; none where the list is missing
abbrev pub accessed_in : ℕ → Access → lists.Rows → Option (List Spec)
accessed_in client (access.Specs variables) ls = Some variables
accessed_in client (access.List name) ls = lists.members client name ls

abbrev pub accessed : ℕ → Access → VariableTables → Option (List Spec)
accessed client a t = accessed_in client a t.lists

abbrev pub accessed_all : ℕ → Access → VariableTables → List Spec
accessed_all client a t = unwrap_or (accessed client a t) []

-- ---- Read

abbrev pub read_cause : ℕ → Read → VariableTables → Option ServiceError
read_cause client asked t = first_of ((is_none (accessed client asked.access t), object_non_existent) ∷ [])

-- the access is told again where that is asked for
abbrev pub access_told : Read → Option Access
access_told asked = if asked.with_access then Some asked.access else None

abbrev pub read_answer : ℕ → Read → VariableTables → ReadAnswer
read_answer client asked t = record { access = access_told asked; results = reads client (accessed_all client asked.access t) t.vars }

-- ---- Write

abbrev pub write_cause : ℕ → Write → VariableTables → Option ServiceError
write_cause client asked t =
    first_of ((is_none (accessed client asked.access t), object_non_existent)
    ∷ (not (nat_eq (length asked.values) (length (accessed_all client asked.access t))), type_inconsistent) ∷ [])

-- each variable beside its data
abbrev pub pairs : ℕ → Write → VariableTables → List (Spec × Datum)
pairs client asked t = zip (accessed_all client asked.access t) asked.values

-- the guard of each variable that it names, in order, and whether one has a guard
abbrev pub guards : ℕ → Write → VariableTables → List (Option (List ℕ))
guards client asked t = cells.guards client (accessed_all client asked.access t) t.vars

abbrev pub is_guarded : ℕ → Write → VariableTables → Bool
is_guarded client asked t = cells.are_guarded client (accessed_all client asked.access t) t.vars

-- of each variable, whether the client owns its guard, from which guards it owns
abbrev pub guards_owned : (List ℕ → Bool) → ℕ → Write → VariableTables → List Bool
guards_owned owns client asked t = flags_of owns (guards client asked t)

-- with whether the client owns the guard of each
abbrev pub write_answer : List Bool → ℕ → Write → VariableTables → List WriteResult
write_answer owns client asked t = (writes client (flagged owns (pairs client asked t)) t.vars).1

abbrev pub write_after : List Bool → ℕ → Write → VariableTables → VariableTables
write_after owns client asked t = record t { vars = (writes client (flagged owns (pairs client asked t)) t.vars).0 }

-- the answer, where the new values of the cells are told beside it
abbrev pub answer_of : {A B E : Type 0} → Result (A × B) E → Result A E
answer_of (Ok told) = Ok told.0
answer_of (Err error) = Err error

-- with these new values of cells
abbrev pub with_new_values : List NewValue → VariableTables → VariableTables
with_new_values values t = record t { vars = news.with_new_values values t.vars }

-- ---- GetVariableAccessAttributes, GetNamedVariableListAttributes

abbrev pub attributes_cause : ℕ → Spec → VariableTables → Option ServiceError
attributes_cause client s t = first_of ((is_none (variables.attributes client s t.vars), object_non_existent) ∷ [])

abbrev pub attributes_answer : ℕ → Spec → VariableTables → Option VariableAttributes
attributes_answer client s t = variables.attributes client s t.vars

abbrev pub list_attributes_cause : ℕ → ObjectName → VariableTables → Option ServiceError
list_attributes_cause client name t = first_of ((is_none (lists.attributes client name t.lists), object_non_existent) ∷ [])

abbrev pub list_attributes_answer : ℕ → ObjectName → VariableTables → Option ListAttributes
list_attributes_answer client name t = lists.attributes client name t.lists

-- ---- DefineNamedVariable, DefineNamedVariableList, with whether the domain of the name's scope is live

abbrev pub define_cause : Bool → ℕ → DefineNamedVariable → VariableTables → Option ServiceError
define_cause live client asked t = variables.define_cause live client asked t.vars

abbrev pub define_after : ℕ → DefineNamedVariable → VariableTables → VariableTables
define_after client asked t = record t { vars = variables.defined client asked t.vars }

abbrev pub define_list_cause : Bool → ℕ → DefineNamedVariableList → VariableTables → Option ServiceError
define_list_cause live client asked t = lists.define_cause live (rows.are_there client asked.variables t.vars) client asked t.lists

abbrev pub define_list_after : ℕ → DefineNamedVariableList → VariableTables → VariableTables
define_list_after client asked t = record t { lists = lists.defined client asked t.lists }

-- ---- DeleteVariableAccess, DeleteNamedVariableList, with whether the domain that they name is live

abbrev is_domain : DeleteScope → Bool
is_domain scope.Domain = true
is_domain scope.Specific = false
is_domain scope.Association = false
is_domain scope.Vmd = false

abbrev pub delete_cause : Bool → DeleteNames → Option ServiceError
delete_cause live asked = first_of ((is_domain asked.scope && not live, object_non_existent) ∷ [])

abbrev pub delete_answer : ℕ → DeleteNames → VariableTables → Deleted
delete_answer client asked t = variables.deletion (selects client asked) t.vars

abbrev pub delete_after : ℕ → DeleteNames → VariableTables → VariableTables
delete_after client asked t = record t { vars = variables.without (selects client asked) t.vars }

abbrev pub delete_lists_answer : ℕ → DeleteNames → VariableTables → Deleted
delete_lists_answer client asked t = lists.deletion (selects client asked) t.lists

abbrev pub delete_lists_after : ℕ → DeleteNames → VariableTables → VariableTables
delete_lists_after client asked t = record t { lists = lists.without (selects client asked) t.lists }

-- ---- the start

-- no cell, no variable and no list
abbrev pub no_variables : VariableTables
no_variables = record { vars = record { cells = []; variables = [] }; lists = [] }

-- the cells and the variables of a configuration, and no list yet
abbrev pub configured : List CellRow → List NamedCell → VariableTables
configured cells named = record { vars = start cells named; lists = [] }

-- ---- the loss of a client

abbrev pub lost : ℕ → VariableTables → VariableTables
lost client t = record { vars = variables.without_client client t.vars; lists = lists.without_client client t.lists }
