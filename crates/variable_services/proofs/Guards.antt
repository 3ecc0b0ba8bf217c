-- A cell whose guard the client doesn't own stays by its write.
use Rattle.std.proofs.Common.{◌≡◌, ℕ, Bool, false, List, Some}
use Rattle.mms_types.specs.declared.variable.Write.{Write}
use Rattle.variables.specs.Rows.{cell_at}
use Rattle.variables.specs.Access.{guard_at}
use Rattle.variables.proofs.Owners as owners
use Rattle.variable_services.specs.declared.tables.VariableTables.{VariableTables}
use Rattle.variable_services.specs.Services.{accessed_all, guards_owned, write_after}

module _ (owns : List ℕ → Bool) (client : ℕ) (asked : Write) (t : VariableTables) where
  pub unowned_stays : (number : ℕ) (guard : List ℕ) → guard_at number t.vars ≡ Some guard → owns guard ≡ false
      → cell_at number (write_after (guards_owned owns client asked t) client asked t).vars ≡ cell_at number t.vars
  unowned_stays number guard guarded unowned = owners.unowned_stays owns client number guard unowned (accessed_all client asked.access t) asked.values t.vars guarded
