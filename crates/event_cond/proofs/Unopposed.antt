-- Where no condition holds against a new event condition, its name is new and there is room for it.
use Rattle.std.proofs.Common.{◌≡◌, ◌<◌, ◌≤◌, ◌++◌, ◌∙◌, ap, ℕ, Bool, false, not, ◌&&◌, nat_le, List, [], ◌∷◌, Option, None, Some, is_some, length, refl, arith}
use Rattle.std.proofs.lemmas.Bool.Decides.{nat_tests}
use Rattle.std.proofs.lemmas.List.{length_push}
use Rattle.mms_types.proofs.Conditions.{none_holds}
use Rattle.mms_types.specs.Errors.{capability_unavailable, object_exists, object_undefined, type_inconsistent}
use Rattle.mms_types.specs.declared.condition.CellFact.{CellFact}
use Rattle.mms_types.specs.declared.condition.DefineEventCondition.{DefineEventCondition}
use Rattle.mms_types.specs.declared.service_error.ServiceError.{ServiceError}
use Rattle.object_names.specs.NewName.{is_of_domain}
use Rattle.event_cond.specs.Conditions.{Rows, condition}
use Rattle.event_cond.specs.Services.{define_cause, is_missing, is_other, most_conditions}

none_found : {A : Type 0} (o : Option A) → is_some o ≡ false → o ≡ None
none_found None e = refl
none_found (Some x) e = absurd cc

-- the rows with one more at the end
pub one_more : {A : Type 0} (rows new : List A) (row : A) → new ≡ rows ++ row ∷ [] → length rows < 256 → length new ≤ 256
one_more rows new row is few = let l = ap length is ∙ length_push rows row in omega (arith, l, few)

pub nothing_against : (live : Bool) (client : ℕ) (asked : DefineEventCondition) (cell : CellFact) (rows : Rows) → define_cause live client asked cell rows ≡ None
    → (condition client asked.name rows ≡ None) × (length rows < 256)
nothing_against live client asked cell rows e =
    let known = is_some (condition client asked.name rows) in
    let missing = is_some asked.monitored && is_missing cell in
    let other = is_some asked.monitored && is_other cell in
    let full = nat_le most_conditions (length rows) in
    let last : List (Bool × ServiceError) = (full, capability_unavailable) ∷ [] in
    let types : List (Bool × ServiceError) = (other, type_inconsistent) ∷ last in
    let cells : List (Bool × ServiceError) = (missing, object_undefined) ∷ types in
    let a = none_holds (is_of_domain asked.name && not live) object_undefined ((known, object_exists) ∷ cells) e in
    let b = none_holds known object_exists cells a.1 in
    let c = none_holds missing object_undefined types b.1 in
    let d = none_holds other type_inconsistent last c.1 in
    let f = none_holds full capability_unavailable [] d.1 in
    (none_found (condition client asked.name rows) b.0, grind (arith, nat_tests, f.0))
