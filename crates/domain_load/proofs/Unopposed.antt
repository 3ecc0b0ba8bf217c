-- Where no condition holds against a new load, its name is new and there is room for it.
use Rattle.std.proofs.Common.{◌≡◌, ◌<◌, ◌≤◌, ◌++◌, ◌∙◌, ap, Bool, false, not, nat_le, List, [], ◌∷◌, Option, None, Some, is_some, length, refl, arith}
use Rattle.std.proofs.lemmas.Bool.Decides.{nat_tests}
use Rattle.std.proofs.lemmas.List.{length_push}
use Rattle.mms_types.proofs.Conditions.{none_holds}
use Rattle.mms_types.specs.Errors.{object_exists, capability_unavailable}
use Rattle.mms_types.specs.declared.domain.InitiateDownloadSequence.{InitiateDownloadSequence}
use Rattle.mms_types.specs.declared.service_error.ServiceError.{ServiceError}
use Rattle.domain_load.specs.Domains.{Rows, named}
use Rattle.domain_load.specs.Loading.{initiate_cause, most_domains}

none_found : {A : Type 0} (o : Option A) → is_some o ≡ false → o ≡ None
none_found None e = refl
none_found (Some x) e = absurd cc

-- the rows with one more at the end
pub one_more : {A : Type 0} (rows new : List A) (row : A) → new ≡ rows ++ row ∷ [] → length rows < 256 → length new ≤ 256
one_more rows new row is few = let l = ap length is ∙ length_push rows row in omega (arith, l, few)

pub nothing_against : (left : Bool) (request : InitiateDownloadSequence) (rows : Rows) → initiate_cause left request rows ≡ None
    → (named request.domain rows ≡ None) × (length rows < 256)
nothing_against left request rows e =
    let full = nat_le most_domains (length rows) in
    let last : List (Bool × ServiceError) = (not left, capability_unavailable) ∷ [] in
    let a = none_holds (is_some (named request.domain rows)) object_exists ((full, capability_unavailable) ∷ last) e in
    let b = none_holds full capability_unavailable last a.1 in
    (none_found (named request.domain rows) a.0, grind (arith, nat_tests, b.0))
