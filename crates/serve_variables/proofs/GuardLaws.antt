-- Whether a write meets a guard is told by its own table.
use Rattle.std.specs.Prelude.{◌≡◌, ℕ, Bool, ◌||◌, List, [], ◌∷◌, Option, is_some, map, refl}
use Rattle.std.specs.List.{list_any}
use Rattle.std.proofs.Common.{ap}
use Rattle.mms_types.specs.declared.variable.Write.{Write}
use Rattle.variables.specs.Access.{guard_named}
use Rattle.variable_services.specs.declared.tables.VariableTables.{VariableTables}
use Rattle.variable_services.specs.Services.{accessed_all, guards, is_guarded}

-- one of the guards there is
any_guard : {A : Type 0} (guard : A → Option (List ℕ)) (xs : List A) → list_any is_some (map guard xs) ≡ list_any (λ x. is_some (guard x)) xs
any_guard guard [] = refl
any_guard guard (x ∷ xs) = ap (λ (later : Bool). is_some (guard x) || later) (any_guard guard xs)

-- whether one of the guards that a write asks for there is, as its own table tells it
pub guarded : (client : ℕ) (x : Write) (v : VariableTables) → list_any is_some (guards client x v) ≡ is_guarded client x v
guarded client x v = any_guard (guard_named client v.vars) (accessed_all client x.access v)
