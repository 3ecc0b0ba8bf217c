-- Names of which one stands twice.
use Rattle.std.proofs.Common.{◌≡◌, ◌∙◌, ℕ, zero, suc, ◌-◌, ◌<◌, ◌≤◌, ◌||◌, Bool, true, false, List, [], ◌∷◌, ap, arith, drop, get_or, length, refl, sym, take}
use Rattle.std.proofs.lemmas.List.{length-drop, take_all}
use Rattle.std.specs.List.{list_any}
use Rattle.domain_load.specs.Domains.{name_eq}
use Rattle.program_inv.specs.Programs.{names_twice}

-- none stands twice behind the last
pub none_behind : (names : List (List ℕ)) (n : ℕ) → length names ≤ n → names_twice (drop n names) ≡ false
none_behind [] zero few = refl
none_behind [] (suc n) few = refl
none_behind (name ∷ names) zero few = absurd (omega (arith, few))
none_behind (name ∷ names) (suc n) few = none_behind names n (omega (arith, few))

or_true : (b : Bool) → (b || true) ≡ true
or_true true = refl
or_true false = refl

-- where it is so behind a place, it is so of all
pub twice_behind : (names : List (List ℕ)) (n : ℕ) → names_twice (drop n names) ≡ true → names_twice names ≡ true
twice_behind [] zero e = e
twice_behind [] (suc n) e = e
twice_behind (name ∷ names) zero e = e
twice_behind (name ∷ names) (suc n) e = ap (λ (b : Bool). list_any (name_eq name) names || b) (twice_behind names n e) ∙ or_true (list_any (name_eq name) names)

next_behind : (names : List (List ℕ)) (n : ℕ) (name : List ℕ) → n < length names → name ≡ get_or names n name → drop n names ≡ name ∷ drop (suc n) names
next_behind [] n name lt is = absurd (omega (arith, lt))
next_behind (x ∷ names) zero name lt is = ap (λ y. y ∷ names) (sym is) ∙ ap (λ ys. name ∷ ys) (sym (none names))
  where
    none : (ys : List (List ℕ)) → drop 0 ys ≡ ys
    none [] = refl
    none (y ∷ ys) = refl
next_behind (x ∷ names) (suc n) name lt is = next_behind names n name (omega (arith, lt)) is

all_left : (names : List (List ℕ)) (m : ℕ) → take (length names - m) (drop m names) ≡ drop m names
all_left names m = let l = length-drop m names in take_all (length names - m) (drop m names) (omega (arith, l))

-- the name at a place stands among those behind it too
pub twice_here : (names : List (List ℕ)) (n m : ℕ) (name : List ℕ) → n < length names → name ≡ get_or names n name → m ≡ suc n
    → list_any (name_eq name) (take (length names - m) (drop m names)) ≡ true → names_twice names ≡ true
twice_here names n m name lt is next found =
    twice_behind names n
    (ap names_twice (next_behind names n name lt is)
    ∙ ap (λ (k : ℕ). list_any (name_eq name) (drop k names) || names_twice (drop (suc n) names)) (sym next)
    ∙ ap (λ (b : Bool). b || names_twice (drop (suc n) names)) (ap (list_any (name_eq name)) (sym (all_left names m)) ∙ found))
