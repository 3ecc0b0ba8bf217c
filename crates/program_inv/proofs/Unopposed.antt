-- Where no condition holds against a new invocation, its name is new and there is room for it.
use Rattle.std.proofs.Common.{◌≡◌, ◌<◌, ◌≤◌, ◌++◌, ◌∙◌, ap, Bool, false, not, nat_le, List, [], ◌∷◌, Option, None, Some, is_some, length, refl, arith}
use Rattle.std.proofs.lemmas.Bool.Decides.{nat_tests}
use Rattle.std.proofs.lemmas.List.{length_push}
use Rattle.std.specs.List.{list_any}
use Rattle.mms_types.proofs.Conditions.{none_holds}
use Rattle.mms_types.specs.Errors.{capability_unavailable, object_constraint_conflict, object_exists, object_non_existent, object_state_conflict}
use Rattle.mms_types.specs.declared.invocation.CreateProgramInvocation.{CreateProgramInvocation}
use Rattle.mms_types.specs.declared.service_error.ServiceError.{ServiceError}
use Rattle.domain_load.specs.Domains.{is_there}
use Rattle.domain_load.specs.Domains as domains
use Rattle.domain_load.specs.Standing.{is_loading}
use Rattle.program_inv.specs.Programs.{Rows, create_cause, has_clash, most_programs, named}

none_found : {A : Type 0} (o : Option A) → is_some o ≡ false → o ≡ None
none_found None e = refl
none_found (Some x) e = absurd cc

-- the rows with one more at the end
pub one_more : {A : Type 0} (rows new : List A) (row : A) → new ≡ rows ++ row ∷ [] → length rows < 256 → length new ≤ 256
one_more rows new row is few = let l = ap length is ∙ length_push rows row in omega (arith, l, few)

pub nothing_against : (request : CreateProgramInvocation) (ds : domains.Rows) (rows : Rows) → create_cause request ds rows ≡ None
    → (named request.name rows ≡ None) × (length rows < 256)
nothing_against request ds rows e =
    let missing = list_any (λ name. not (is_some (domains.named name ds))) request.domains in
    let loading = list_any (λ name. is_there is_loading name ds) request.domains in
    let clash = has_clash request.domains ds in
    let full = nat_le most_programs (length rows) in
    let one : List (Bool × ServiceError) = (full, capability_unavailable) ∷ [] in
    let two : List (Bool × ServiceError) = (clash, object_constraint_conflict) ∷ one in
    let three : List (Bool × ServiceError) = (loading, object_state_conflict) ∷ two in
    let four : List (Bool × ServiceError) = (missing, object_non_existent) ∷ three in
    let a = none_holds (is_some (named request.name rows)) object_exists four e in
    let b = none_holds missing object_non_existent three a.1 in
    let c = none_holds loading object_state_conflict two b.1 in
    let d = none_holds clash object_constraint_conflict one c.1 in
    let f = none_holds full capability_unavailable [] d.1 in
    (none_found (named request.name rows) a.0, grind (arith, nat_tests, f.0))
