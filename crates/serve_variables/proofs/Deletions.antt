-- What a deletion answers and leaves, by the names that its selection has.
use Rattle.std.specs.Prelude.{◌≡◌, ℕ, Bool, Some}
use Rattle.std.proofs.Common.{ap, sym, ◌∙◌}
use Rattle.mms_types.specs.declared.key.Key.{Key}
use Rattle.mms_types.specs.declared.pdu.Answer.TheVariants as answer
use Rattle.mms_types.specs.declared.variable.DeleteNames.{DeleteNames}
use Rattle.mms_types.specs.declared.variable.Deleted.{Deleted}
use Rattle.object_names.specs.Deletion.{selects}
use Rattle.variables.specs.Definitions as variables
use Rattle.variables.specs.Rows as variable_rows
use Rattle.variable_lists.specs.Lists as lists
use Rattle.variable_services.specs.declared.tables.VariableTables.{VariableTables}
use Rattle.variable_services.specs.Services.{delete_after, delete_answer, delete_lists_after, delete_lists_answer}

module _ (client own : ℕ) (x : DeleteNames) (v : VariableTables) (selected : Key → Bool) (same : own ≡ client) (is : selected ≡ selects client x) where
  named : selects own x ≡ selected
  named = ap (λ (k : ℕ). selects k x) same ∙ sym is

  pub variables_told : (told : Deleted) → told ≡ variables.deletion selected v.vars
      → Some (answer.DeleteVariableAccess (delete_answer own x v)) ≡ Some (answer.DeleteVariableAccess told)
  variables_told told are =
      ap (λ (d : Deleted). Some (answer.DeleteVariableAccess d)) (ap (λ (p : Key → Bool). variables.deletion p v.vars) named ∙ sym are)

  pub variables_left : (vars : variable_rows.Rows) → vars ≡ variables.without selected v.vars → record v { vars = vars } ≡ delete_after own x v
  variables_left vars are = ap (λ (l : variable_rows.Rows). with l) (are ∙ ap (λ (p : Key → Bool). variables.without p v.vars) (sym named))
    where
      with : variable_rows.Rows → VariableTables
      with l = record v { vars = l }

  pub lists_told : (told : Deleted) → told ≡ lists.deletion selected v.lists
      → Some (answer.DeleteNamedVariableList (delete_lists_answer own x v)) ≡ Some (answer.DeleteNamedVariableList told)
  lists_told told are =
      ap (λ (d : Deleted). Some (answer.DeleteNamedVariableList d)) (ap (λ (p : Key → Bool). lists.deletion p v.lists) named ∙ sym are)

  pub lists_left : (rows : lists.Rows) → rows ≡ lists.without selected v.lists → record v { lists = rows } ≡ delete_lists_after own x v
  lists_left rows are = ap (λ (l : lists.Rows). with l) (are ∙ ap (λ (p : Key → Bool). lists.without p v.lists) (sym named))
    where
      with : lists.Rows → VariableTables
      with l = record v { lists = l }
