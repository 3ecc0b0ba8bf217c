-- Where no condition holds against a new name, it is new, its cell is there, and there is room for it.
use Rattle.std.proofs.Common.{◌≡◌, ℕ, ◌<◌, Bool, false, ◌&&◌, not, nat_le, List, [], ◌∷◌, Option, None, Some, IsSome, is_some, is_none, length, refl, arith}
use Rattle.std.proofs.lemmas.Bool.Decides.{nat_tests}
use Rattle.mms_types.proofs.Conditions.{none_holds}
use Rattle.mms_types.specs.Errors.{object_undefined, object_exists, invalid_address, type_inconsistent, capability_unavailable}
use Rattle.object_names.specs.NewName.{is_of_domain}
use Rattle.mms_types.specs.declared.service_error.ServiceError.{ServiceError}
use Rattle.mms_types.specs.declared.variable.DefineNamedVariable.{DefineNamedVariable}
use Rattle.variables.specs.Rows.{Rows, cell_at, variable_named}
use Rattle.variables.specs.Definitions.{define_cause, has_other_type, most_variables}

abbrev pub IsFree : DefineNamedVariable → ℕ → Rows → Type 0
IsFree asked client rows = (variable_named client asked.name rows ≡ None) × IsSome (cell_at asked.address rows) × (length rows.variables < 4096)

none_found : {A : Type 0} (o : Option A) → is_some o ≡ false → o ≡ None
none_found None e = refl
none_found (Some x) e = absurd cc

found : {A : Type 0} (o : Option A) → is_none o ≡ false → IsSome o
found None e = absurd cc
found (Some x) e = refl

pub nothing_against : (live : Bool) (client : ℕ) (asked : DefineNamedVariable) (rows : Rows) → define_cause live client asked rows ≡ None → IsFree asked client rows
nothing_against live client asked rows e =
    let missing = is_none (cell_at asked.address rows) in
    let other = has_other_type asked.of (cell_at asked.address rows) in
    let full = nat_le most_variables (length rows.variables) in
    let last : List (Bool × ServiceError) = (full, capability_unavailable) ∷ [] in
    let types : List (Bool × ServiceError) = (other, type_inconsistent) ∷ last in
    let cells : List (Bool × ServiceError) = (missing, invalid_address) ∷ types in
    let known = is_some (variable_named client asked.name rows) in
    let a = none_holds (is_of_domain asked.name && not live) object_undefined ((known, object_exists) ∷ cells) e in
    let b = none_holds known object_exists cells a.1 in
    let c = none_holds missing invalid_address types b.1 in
    let d = none_holds other type_inconsistent last c.1 in
    let f = none_holds full capability_unavailable [] d.1 in
    (none_found (variable_named client asked.name rows) b.0, found (cell_at asked.address rows) c.0, grind (arith, nat_tests, f.0))
