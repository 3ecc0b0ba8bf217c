-- Where no condition holds against a new enrollment, its name is new and there is room for it.
use Rattle.std.proofs.Common.{◌≡◌, ◌<◌, ◌&&◌, Bool, false, not, ℕ, nat_le, List, [], ◌∷◌, Option, None, Some, is_some, length, refl, arith}
use Rattle.std.proofs.lemmas.Bool.Decides.{nat_tests}
use Rattle.std.specs.Map.{lookup}
use Rattle.mms_types.proofs.Conditions.{none_holds}
use Rattle.mms_types.specs.Errors.{capability_unavailable, object_exists, object_non_existent, object_undefined}
use Rattle.mms_types.specs.Order.{key_eq, key_of}
use Rattle.mms_types.specs.declared.condition.DefineEventEnrollment.{DefineEventEnrollment}
use Rattle.mms_types.specs.declared.service_error.ServiceError.{ServiceError}
use Rattle.object_names.specs.NewName.{is_of_domain}
use Rattle.event_enrol.specs.Enrolments.{Rows, define_cause, is_defined, most_enrolments}

none_found : {A : Type 0} (o : Option A) → is_some o ≡ false → o ≡ None
none_found None e = refl
none_found (Some x) e = absurd cc

pub nothing_against : (live there : Bool) (client : ℕ) (request : DefineEventEnrollment) (rows : Rows) → define_cause live there client request rows ≡ None
    → (lookup (key_eq (key_of client request.name)) rows ≡ None) × (length rows < 1024)
nothing_against live there client request rows e =
    let full = nat_le most_enrolments (length rows) in
    let one : List (Bool × ServiceError) = (full, capability_unavailable) ∷ [] in
    let two : List (Bool × ServiceError) = (not there, object_non_existent) ∷ one in
    let three : List (Bool × ServiceError) = (is_defined client request.name rows, object_exists) ∷ two in
    let a = none_holds (is_of_domain request.name && not live) object_undefined three e in
    let b = none_holds (is_defined client request.name rows) object_exists two a.1 in
    let c = none_holds (not there) object_non_existent one b.1 in
    let d = none_holds full capability_unavailable [] c.1 in
    (none_found (lookup (key_eq (key_of client request.name)) rows) b.0, grind (arith, nat_tests, d.0))
