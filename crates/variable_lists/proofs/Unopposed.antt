-- Where no condition holds against a new list, its name is new and there is room for it.
use Rattle.std.proofs.Common.{◌≡◌, ℕ, ◌<◌, Bool, false, ◌&&◌, not, nat_le, List, [], ◌∷◌, Option, None, Some, is_some, length, refl, arith}
use Rattle.std.proofs.lemmas.Bool.Decides.{nat_tests}
use Rattle.std.specs.Map.{lookup}
use Rattle.std.specs.Option.{option_map}
use Rattle.mms_types.proofs.Conditions.{none_holds}
use Rattle.mms_types.specs.Errors.{object_undefined, object_exists, object_non_existent, capability_unavailable}
use Rattle.mms_types.specs.Order.{key_eq, key_of}
use Rattle.mms_types.specs.declared.service_error.ServiceError.{ServiceError}
use Rattle.mms_types.specs.declared.variable.DefineNamedVariableList.{DefineNamedVariableList}
use Rattle.object_names.specs.NewName.{is_of_domain}
use Rattle.variable_lists.specs.Lists.{Rows, members, most_lists, define_cause}

none_found : {A B : Type 0} (f : A → B) (o : Option A) → is_some (option_map f o) ≡ false → o ≡ None
none_found f None e = refl
none_found f (Some x) e = absurd cc

pub nothing_against : (live there : Bool) (client : ℕ) (asked : DefineNamedVariableList) (rows : Rows) → define_cause live there client asked rows ≡ None
    → (lookup (key_eq (key_of client asked.name)) rows ≡ None) × (length rows < 256)
nothing_against live there client asked rows e =
    let full = nat_le most_lists (length rows) in
    let last : List (Bool × ServiceError) = (full, capability_unavailable) ∷ [] in
    let given : List (Bool × ServiceError) = (not there, object_non_existent) ∷ last in
    let known = is_some (members client asked.name rows) in
    let a = none_holds (is_of_domain asked.name && not live) object_undefined ((known, object_exists) ∷ given) e in
    let b = none_holds known object_exists given a.1 in
    let c = none_holds (not there) object_non_existent last b.1 in
    let d = none_holds full capability_unavailable [] c.1 in
    (none_found (λ list. list.variables) (lookup (key_eq (key_of client asked.name)) rows) b.0, grind (arith, nat_tests, d.0))
