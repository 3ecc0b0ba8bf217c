-- The domains of an invocation that nothing stands against are free for it.
use Rattle.std.proofs.Common.{◌≡◌, ℕ, Bool, true, false, not, ◌&&◌, ◌||◌, List, [], ◌∷◌, Option, None, Some, is_some, length, nat_le, refl}
use Rattle.std.proofs.lemmas.List.Elements.{All-from_recursion}
use Rattle.std.specs.List.{AllByRecursion, IsDistinct, list_any}
use Rattle.std.specs.Option.{option_map_or}
use Rattle.mms_types.proofs.Conditions.{none_holds}
use Rattle.mms_types.specs.Errors.{capability_unavailable, object_constraint_conflict, object_exists, object_non_existent, object_state_conflict}
use Rattle.mms_types.specs.declared.invocation.CreateProgramInvocation.{CreateProgramInvocation}
use Rattle.mms_types.specs.declared.service_error.ServiceError.{ServiceError}
use Rattle.domain_load.specs.Domains.{is_there, name_eq}
use Rattle.domain_load.specs.Domains as loads
use Rattle.domain_load.specs.Standing.{is_loading}
use Rattle.domain_load.specs.Used.{AreFreeFor, is_free_for, is_had_by, is_taken}
use Rattle.domain_load.specs.declared.domain.Domain.{Domain}
use Rattle.program_inv.specs.Programs.{Rows, create_cause, has_clash, most_programs, named, names_twice}

neither : (a b : Bool) → (a || b) ≡ false → (a ≡ false) × (b ≡ false)
neither true b e = absurd cc
neither false b e = (refl, e)

three : (a b c : Bool) → a ≡ false → b ≡ false → c ≡ false → (not a && not b && not c) ≡ true
three false false false x y z = refl
three true b c x y z = absurd cc
three false true c x y z = absurd cc
three false false true x y z = absurd cc

one : (by : List ℕ) (o : Option Domain) → not (is_some o) ≡ false → option_map_or is_loading o false ≡ false → option_map_or is_taken o false ≡ false
    → option_map_or (is_had_by by) o false ≡ false → option_map_or (is_free_for by) o false ≡ true
one by None there loading taken had = absurd cc
one by (Some domain) there loading taken had = three (is_loading domain) (is_taken domain) (is_had_by by domain) loading taken had

each : (by : List ℕ) (ds : loads.Rows) → ((name : List ℕ) → is_there (is_had_by by) name ds ≡ false) → (names : List (List ℕ))
    → list_any (λ name. not (is_some (loads.named name ds))) names ≡ false → list_any (λ name. is_there is_loading name ds) names ≡ false
    → list_any (λ name. is_there is_taken name ds) names ≡ false → AllByRecursion (λ name. is_there (is_free_for by) name ds ≡ true) names
each by ds had [] there loading taken = tt
each by ds had (name ∷ names) there loading taken =
    let a = neither (not (is_some (loads.named name ds))) (list_any (λ other. not (is_some (loads.named other ds))) names) there in
    let b = neither (is_there is_loading name ds) (list_any (λ other. is_there is_loading other ds) names) loading in
    let c = neither (is_there is_taken name ds) (list_any (λ other. is_there is_taken other ds) names) taken in
    (one by (loads.named name ds) a.0 b.0 c.0 (had name), each by ds had names a.1 b.1 c.1)

none_of : (name : List ℕ) (names : List (List ℕ)) → list_any (name_eq name) names ≡ false → AllByRecursion (λ other. name_eq name other ≡ false) names
none_of name [] e = tt
none_of name (other ∷ others) e = let a = neither (name_eq name other) (list_any (name_eq name) others) e in (a.0, none_of name others a.1)

distinct : (names : List (List ℕ)) → names_twice names ≡ false → IsDistinct name_eq names
unfolding IsDistinct
distinct [] e = tt
distinct (name ∷ names) e = let a = neither (list_any (name_eq name) names) (names_twice names) e in (none_of name names a.0, distinct names a.1)

pub all_free : (request : CreateProgramInvocation) (ds : loads.Rows) (rows : Rows) → create_cause request ds rows ≡ None
    → ((name : List ℕ) → is_there (is_had_by request.name) name ds ≡ false) → AreFreeFor request.name request.domains ds
all_free request ds rows e had =
    let missing = list_any (λ name. not (is_some (loads.named name ds))) request.domains in
    let loading = list_any (λ name. is_there is_loading name ds) request.domains in
    let taken = list_any (λ name. is_there is_taken name ds) request.domains in
    let clash = has_clash request.domains ds in
    let full = nat_le most_programs (length rows) in
    let last : List (Bool × ServiceError) = (full, capability_unavailable) ∷ [] in
    let two : List (Bool × ServiceError) = (clash, object_constraint_conflict) ∷ last in
    let more : List (Bool × ServiceError) = (loading, object_state_conflict) ∷ two in
    let most : List (Bool × ServiceError) = (missing, object_non_existent) ∷ more in
    let a = none_holds (is_some (named request.name rows)) object_exists most e in
    let b = none_holds missing object_non_existent more a.1 in
    let c = none_holds loading object_state_conflict two b.1 in
    let d = none_holds clash object_constraint_conflict last c.1 in
    let t = neither (names_twice request.domains) taken d.0 in
    record {
      each = All-from_recursion (λ name. is_there (is_free_for request.name) name ds ≡ true) request.domains
          (each request.name ds had request.domains b.0 c.0 t.1);
      once = distinct request.domains t.0;
    }
