-- The parts of those that are told something, as places and as code finds them.
use Rattle.std.specs.Prelude.{◌≡◌, ℕ, zero, suc, ◌+◌, ◌-◌, ◌≤◌, ◌==◌, ◌&&◌, ◌||◌, nat_le, Bool, true, false, not, Option, List, [], ◌∷◌, ◌++◌, filter, map, if◌then◌else◌, refl}
use Rattle.std.specs.List.{list_any}
use Rattle.std.proofs.Common.{ap, ap₂, sym, ◌∙◌, arith}
use Rattle.std.proofs.lemmas.Bool.Decides.{nat_tests}
use Rattle.std.proofs.lemmas.List.Elements.{filter-append}
use Rattle.std.proofs.lemmas.List.Folds.{list_any-append}
use Rattle.parted_state.specs.Cut.{is_in, is_held, missing}
use Rattle.parted_state.specs.CutLaws.{same_number}
use Rattle.parted_state.specs.Sets.{IsSetOf}
use Rattle.parted_state.proofs.SetLaws.{in_missing}
use Rattle.parted_state.specs.Served.{is_told}
use Rattle.parted_state.specs.Served as parted
use Rattle.cell_client.specs.Effects.{Effect, tell}
use Rattle.step_parts.specs.declared.part.Part.{Part}
use Rattle.step_parts.specs.Needs.{client_parts}
use Rattle.step_parts.specs.Partition.{cell, client_place}

-- ---- those of clients 1 to n

abbrev inside : ℕ → ℕ → Bool
inside n p = nat_le 6 p && nat_le p (5 + n)

-- one more number
last_in : (told y : Bool) (n p : ℕ) → (client_place (suc n) ≡ p → y ≡ told) → ((inside n p && told) || is_in (parted.told_if cell y (suc n)) p) ≡ (inside (suc n) p && told)
last_in told true n p same = grind (arith, nat_tests)
last_in told false n p same = grind (arith, nat_tests)

in_told : (told : List (ℕ × Effect)) (n p : ℕ) → is_in (parted.told_places cell told n) p ≡ (inside n p && is_told told (p - 5))
in_told told zero p = let out : inside 0 p ≡ false = grind (arith, nat_tests) in ap (λ (b : Bool). b && is_told told (p - 5)) (sym out)
in_told told (suc n) p =
    list_any-append (λ q. q == p) (parted.told_places cell told n) (parted.told_if cell (is_told told (suc n)) (suc n))
    ∙ ap (λ (b : Bool). b || is_in (parted.told_if cell (is_told told (suc n)) (suc n)) p) (in_told told n p)
    ∙ last_in (is_told told (p - 5)) (is_told told (suc n)) n p (λ same. ap (λ (k : ℕ). is_told told k) (omega (arith, same)))

-- one more client
one_in : (n c p : ℕ) (rest before : Bool) → before ≡ (inside n p && rest) → (b : Bool) → (nat_le 1 c && nat_le c n) ≡ b
    → (if b then (client_place c == p) || before else before) ≡ (inside n p && ((c == (p - 5)) || rest))
one_in n c p rest before is true e = grind (arith, nat_tests)
one_in n c p rest before is false e = grind (arith, nat_tests)

in_client_parts : (n : ℕ) (clients : List ℕ) (p : ℕ) → is_in (client_parts n clients) p ≡ (inside n p && list_any (λ c. c == (p - 5)) clients)
in_client_parts n [] p = grind arith
in_client_parts n (c ∷ clients) p = at_first (nat_le 1 c && nat_le c n) ∙ one_in n c p (list_any (λ x. x == (p - 5)) clients) before (in_client_parts n clients p) (nat_le 1 c && nat_le c n) refl
  where
    before : Bool
    before = is_in (client_parts n clients) p

    at_first : (b : Bool) → is_in (map client_place (if b then c ∷ filter (λ x. nat_le 1 x && nat_le x n) clients else filter (λ x. nat_le 1 x && nat_le x n) clients)) p
        ≡ (if b then (client_place c == p) || before else before)
    at_first true = refl
    at_first false = refl

-- what isn't held of the parts of those that are told something is what isn't held of those parts that code finds
pub told_set : (hand : List (Option Part)) (told : List (ℕ × Effect)) (clients : List ℕ) (n : ℕ) (gone : List ℕ)
    → ((k : ℕ) → is_held hand (client_place k) ≡ false → is_told told k ≡ list_any (λ c. c == k) clients)
    → IsSetOf gone (missing hand (client_parts n clients)) → IsSetOf gone (missing hand (parted.told_places cell told n))
told_set hand told clients n gone each is = record {
  increasing = is.increasing;
  members = λ p. is.members p ∙ in_missing hand (client_parts n clients) p ∙ by_held p (is_held hand p) refl ∙ sym (in_missing hand (parted.told_places cell told n) p);
}
  where
    by_inside : (p : ℕ) → is_held hand p ≡ false → (i : Bool) → inside n p ≡ i
        → (i && list_any (λ c. c == (p - 5)) clients) ≡ (i && is_told told (p - 5))
    by_inside p free false e = refl
    by_inside p free true e =
        let low : 6 ≤ p = grind (arith, nat_tests) in
        let here : client_place (p - 5) ≡ p = omega (arith, low) in
        sym (each (p - 5) (ap (λ (i : ℕ). is_held hand i) here ∙ free))

    by_held : (p : ℕ) (b : Bool) → is_held hand p ≡ b
        → (not b && is_in (client_parts n clients) p) ≡ (not b && is_in (parted.told_places cell told n) p)
    by_held p true e = refl
    by_held p false e = in_client_parts n clients p ∙ by_inside p e (inside n p) refl ∙ sym (in_told told n p)

-- ---- the client itself, whose part is held

told_itself : (client : ℕ) (effects : List Effect) (k : ℕ) → is_told (tell client effects) k ≡ true → client ≡ k
told_itself client [] k on = absurd (cc on)
told_itself client (effect ∷ effects) k on = by_test (client == k) refl (told_itself client effects k) on
  where
    by_test : (b : Bool) → (client == k) ≡ b → (is_told (tell client effects) k ≡ true → client ≡ k) → (b || is_told (tell client effects) k) ≡ true → client ≡ k
    by_test true e rest h = same_number client k e
    by_test false e rest h = rest h

pub missing_both : {P : Type 0} (hand : List (Option P)) (xs ys : List ℕ) → missing hand (xs ++ ys) ≡ missing hand xs ++ missing hand ys
missing_both hand xs ys = filter-append (λ place. not (is_held hand place)) xs ys

held_none : (hand : List (Option Part)) (k : ℕ) (b : Bool) → is_held hand (client_place k) ≡ true → missing hand (parted.told_if cell b k) ≡ []
held_none hand k false held = refl
held_none hand k true held = ap (λ (c : Bool). if not c then client_place k ∷ [] else []) held

-- nothing is missing for what the client itself is told
pub own_skipped : (hand : List (Option Part)) (client : ℕ) (own : List Effect) (also : List (ℕ × Effect)) (n : ℕ) → is_held hand (client_place client) ≡ true
    → missing hand (parted.told_places cell (tell client own ++ also) n) ≡ missing hand (parted.told_places cell also n)
own_skipped hand client own also zero held = refl
own_skipped hand client own also (suc n) held =
    missing_both hand (parted.told_places cell (tell client own ++ also) n) (parted.told_if cell (is_told (tell client own ++ also) (suc n)) (suc n))
    ∙ ap₂ (λ (a b : List ℕ). a ++ b) (own_skipped hand client own also n held) (by_test (is_told (tell client own) (suc n)) refl)
    ∙ sym (missing_both hand (parted.told_places cell also n) (parted.told_if cell (is_told also (suc n)) (suc n)))
  where
    by_test : (b : Bool) → is_told (tell client own) (suc n) ≡ b
        → missing hand (parted.told_if cell (is_told (tell client own ++ also) (suc n)) (suc n)) ≡ missing hand (parted.told_if cell (is_told also (suc n)) (suc n))
    by_test false e =
        ap (λ (b : Bool). missing hand (parted.told_if cell b (suc n))) (list_any-append (λ x. x.0 == suc n) (tell client own) also ∙ ap (λ (b : Bool). b || is_told also (suc n)) e)
    by_test true e =
        let here : is_held hand (client_place (suc n)) ≡ true = ap (λ (k : ℕ). is_held hand (client_place k)) (sym (told_itself client own (suc n) e)) ∙ held in
        held_none hand (suc n) (is_told (tell client own ++ also) (suc n)) here ∙ sym (held_none hand (suc n) (is_told also (suc n)) here)
