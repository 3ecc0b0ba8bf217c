-- Where no condition holds against a new journal, its name is new and there is room for it.
use Rattle.std.proofs.Common.{◌≡◌, ◌<◌, ◌≤◌, ◌++◌, ◌∙◌, ap, ℕ, Bool, false, not, ◌&&◌, nat_le, List, [], ◌∷◌, Option, None, Some, is_some, length, refl, arith}
use Rattle.std.proofs.lemmas.Bool.Decides.{nat_tests}
use Rattle.std.proofs.lemmas.List.{length_push}
use Rattle.mms_types.proofs.Conditions.{none_holds}
use Rattle.mms_types.specs.Errors.{capability_unavailable, object_exists, object_undefined}
use Rattle.mms_types.specs.declared.object_name.ObjectName.{ObjectName}
use Rattle.mms_types.specs.declared.service_error.ServiceError.{ServiceError}
use Rattle.object_names.specs.NewName.{is_of_domain}
use Rattle.mms_journal.specs.Journals.{Rows, journal, most_journals}
use Rattle.mms_journal.specs.Services.{create_cause}

none_found : {A : Type 0} (o : Option A) → is_some o ≡ false → o ≡ None
none_found None e = refl
none_found (Some x) e = absurd cc

-- the rows with one more at the end
pub one_more : {A : Type 0} (rows new : List A) (row : A) → new ≡ rows ++ row ∷ [] → length rows < 64 → length new ≤ 64
one_more rows new row is few = let l = ap length is ∙ length_push rows row in omega (arith, l, few)

pub nothing_against : (live : Bool) (client : ℕ) (name : ObjectName) (rows : Rows) → create_cause live client name rows ≡ None
    → (journal client name rows ≡ None) × (length rows < 64)
nothing_against live client name rows e =
    let known = is_some (journal client name rows) in
    let full = nat_le most_journals (length rows) in
    let last : List (Bool × ServiceError) = (full, capability_unavailable) ∷ [] in
    let a = none_holds (is_of_domain name && not live) object_undefined ((known, object_exists) ∷ last) e in
    let b = none_holds known object_exists last a.1 in
    let f = none_holds full capability_unavailable [] b.1 in
    (none_found (journal client name rows) b.0, grind (arith, nat_tests, f.0))
