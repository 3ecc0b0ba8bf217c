-- Where no condition holds against a new semaphore, its name is new.
use Rattle.std.proofs.Common.{◌≡◌, ℕ, Bool, false, ◌&&◌, not, nat_le, List, [], ◌∷◌, Option, None, Some, is_some, length, refl}
use Rattle.std.specs.Map.{lookup}
use Rattle.mms_types.proofs.Conditions.{none_holds}
use Rattle.mms_types.specs.Errors.{object_undefined, object_exists, capability_unavailable}
use Rattle.mms_types.specs.Order.{key_eq, key_of}
use Rattle.mms_types.specs.declared.service_error.ServiceError.{ServiceError}
use Rattle.mms_types.specs.declared.semaphore.DefineSemaphore.{DefineSemaphore}
use Rattle.object_names.specs.NewName.{is_of_domain}
use Rattle.mms_time.specs.Semaphores.{Rows, semaphore}
use Rattle.mms_time.specs.Services.{most_semaphores, define_cause}

none_found : {A : Type 0} (o : Option A) → is_some o ≡ false → o ≡ None
none_found None e = refl
none_found (Some x) e = absurd cc

pub nothing_against : (live : Bool) (client : ℕ) (asked : DefineSemaphore) (rows : Rows) → define_cause live client asked rows ≡ None
    → lookup (key_eq (key_of client asked.name)) rows ≡ None
nothing_against live client asked rows e =
    let last : List (Bool × ServiceError) = (nat_le most_semaphores (length rows), capability_unavailable) ∷ [] in
    let known = is_some (semaphore client asked.name rows) in
    let a = none_holds (is_of_domain asked.name && not live) object_undefined ((known, object_exists) ∷ last) e in
    let b = none_holds known object_exists last a.1 in
    none_found (lookup (key_eq (key_of client asked.name)) rows) b.0
