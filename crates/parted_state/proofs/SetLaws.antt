-- Laws of sets of places.
use Rattle.std.specs.Prelude.{◌≡◌, ◌↔◌, ℕ, zero, suc, ◌+◌, ◌<◌, ◌≤◌, ◌==◌, ◌||◌, ◌&&◌, not, Bool, true, false, Option, List, [], ◌∷◌, ◌++◌, length, slice_index, if◌then◌else◌, refl}
use Rattle.std.specs.List.Sorted.{IsStrictlyIncreasing}
use Rattle.std.proofs.Common.{ap, ap₂, sym, ◌∙◌, subst, arith}
use Rattle.std.proofs.lemmas.Bool.Decides.{nat_tests}
use Rattle.std.proofs.lemmas.List.Folds.{list_any-append}
use Rattle.std.proofs.lemmas.Map.Views.{any-filter_same}
use Rattle.parted_state.specs.Cut.{is_in, is_held, are_held, missing}
use Rattle.parted_state.specs.CutLaws.{same_number, same_itself, held_in}
use Rattle.parted_state.specs.Sets.{IsSetOf}

-- ---- lists that increase

-- each number is above the one before it, and the first is no less than this
abbrev pub IsFrom : ℕ → List ℕ → Type 0
IsFrom low [] = Unit {0}
IsFrom low (x ∷ xs) = (low ≤ x) × IsFrom (suc x) xs

pub from_lower : (low lower : ℕ) (xs : List ℕ) → lower ≤ low → IsFrom low xs → IsFrom lower xs
from_lower low lower [] less from = tt
from_lower low lower (x ∷ xs) less from = let first = from.0 in (omega (arith, less, first), from.1)

pub from_increasing : (low : ℕ) (xs : List ℕ) → IsFrom low xs → IsStrictlyIncreasing xs
from_increasing low [] from k within = absurd (omega (arith, within))
from_increasing low (x ∷ []) from k within = absurd (omega (arith, within))
from_increasing low (x ∷ y ∷ xs) from zero within = let next = from.1.0 in omega (arith, next)
from_increasing low (x ∷ y ∷ xs) from (suc k) within =
    let next : suc (k + 1) ≡ suc k + 1 = omega arith in
    subst (λ (j : ℕ). slice_index (y ∷ xs) k < slice_index (x ∷ y ∷ xs) j) next (from_increasing (suc x) (y ∷ xs) from.1 k (omega (arith, within)))

pub increasing_from : (xs : List ℕ) → IsStrictlyIncreasing xs → IsFrom 0 xs
increasing_from [] increasing = tt
increasing_from (x ∷ xs) increasing = (omega arith, behind x xs increasing)
  where
    behind : (x : ℕ) (xs : List ℕ) → IsStrictlyIncreasing (x ∷ xs) → IsFrom (suc x) xs
    behind x [] increasing = tt
    behind x (y ∷ xs) increasing =
        let first : x < y = increasing 0 (omega arith) in (
          omega (arith, first),
          behind y xs (λ k within.
              let next : suc k + 1 ≡ suc (k + 1) = omega arith in
              subst (λ (j : ℕ). slice_index (y ∷ xs) k < slice_index (x ∷ y ∷ xs) j) next (increasing (suc k) (omega (arith, within)))),
        )

-- ---- what is in them

in_first : (x : ℕ) (xs : List ℕ) → is_in (x ∷ xs) x ≡ true
in_first x xs = ap (λ (b : Bool). b || is_in xs x) (same_itself x)

from_above : (low : ℕ) (xs : List ℕ) (p : ℕ) → IsFrom low xs → is_in xs p ≡ true → low ≤ p
from_above low [] p from on = absurd (cc on)
from_above low (x ∷ xs) p from on = by_test (x == p) refl (λ rest. from_above (suc x) xs p from.1 rest) on
  where
    by_test : (b : Bool) → (x == p) ≡ b → (is_in xs p ≡ true → suc x ≤ p) → (b || is_in xs p) ≡ true → low ≤ p
    by_test true e rest h = let same = same_number x p e in let first = from.0 in omega (arith, same, first)
    by_test false e rest h = let above = rest h in let first = from.0 in omega (arith, above, first)

not_below : (low : ℕ) (xs : List ℕ) (p : ℕ) → IsFrom low xs → p < low → is_in xs p ≡ false
not_below low xs p from less = by_value (is_in xs p) refl
  where
    by_value : (b : Bool) → is_in xs p ≡ b → b ≡ false
    by_value false e = refl
    by_value true e = let above = from_above low xs p from e in absurd (omega (arith, less, above))

-- lists that increase and have the same in them are the same
pub same_from : (low : ℕ) (xs ys : List ℕ) → IsFrom low xs → IsFrom low ys → ((p : ℕ) → is_in xs p ≡ is_in ys p) → xs ≡ ys
same_from low [] [] one other same = refl
same_from low [] (y ∷ ys) one other same = absurd (cc (same y ∙ in_first y ys))
same_from low (x ∷ xs) [] one other same = absurd (cc (sym (same x) ∙ in_first x xs))
same_from low (x ∷ xs) (y ∷ ys) one other same =
    ap₂ (λ (z : ℕ) (zs : List ℕ). z ∷ zs) first
    (same_from (suc x) xs ys one.1 (from_lower (suc y) (suc x) ys (omega (arith, first)) other.1)
    (λ p. behind p (x == p) refl (ap (λ (z : ℕ). z == p) (sym first)) (same p ∙ ap (λ (z : ℕ). z == p || is_in ys p) (sym first))))
  where
    below : (a : ℕ) (zs : List ℕ) (b : ℕ) → IsFrom low (a ∷ zs) → is_in (a ∷ zs) b ≡ true → a ≤ b
    below a zs b from on = from_above a (a ∷ zs) b (omega arith, from.1) on

    first : x ≡ y
    first =
        let up = below x xs y one (same y ∙ in_first y ys) in
        let down = below y ys x other (sym (same x) ∙ in_first x xs) in
        omega (arith, up, down)

    behind : (p : ℕ) (b : Bool) → (x == p) ≡ b → (y == p) ≡ (x == p) → ((x == p) || is_in xs p) ≡ ((x == p) || is_in ys p) → is_in xs p ≡ is_in ys p
    behind p false e f h = ap (λ (c : Bool). c || is_in xs p) (sym e) ∙ h ∙ ap (λ (c : Bool). c || is_in ys p) e
    behind p true e f h =
        let same_x = same_number x p e in
        let same_y = same_number y p (f ∙ e) in
        not_below (suc x) xs p one.1 (omega (arith, same_x)) ∙ sym (not_below (suc y) ys p other.1 (omega (arith, same_y)))

-- the set of some places is one list
pub one_set : (one other places : List ℕ) → IsSetOf one places → IsSetOf other places → one ≡ other
one_set one other places first second =
    same_from 0 one other (increasing_from one first.increasing) (increasing_from other second.increasing) (λ p. first.members p ∙ sym (second.members p))

pub none_in : (xs : List ℕ) → ((p : ℕ) → is_in xs p ≡ false) → xs ≡ []
none_in [] none = refl
none_in (x ∷ xs) none = absurd (cc (sym (none x) ∙ in_first x xs))

-- it is empty exactly where there is no place
pub empty_set : (set places : List ℕ) → IsSetOf set places → (set ≡ []) ↔ (places ≡ [])
empty_set set places is = (
  λ empty. none_in places (λ p. sym (is.members p) ∙ ap (λ (l : List ℕ). is_in l p) empty),
  λ none. none_in set (λ p. is.members p ∙ ap (λ (l : List ℕ). is_in l p) none),
)

-- ---- what isn't held

module _ {P : Type 0} where
  pub in_missing : (hand : List (Option P)) (places : List ℕ) (p : ℕ) → is_in (missing hand places) p ≡ (not (is_held hand p) && is_in places p)
  in_missing hand places p =
      any-filter_same (λ q. q == p) (λ q. not (is_held hand q)) (not (is_held hand p))
      (λ q same. ap (λ (r : ℕ). not (is_held hand r)) (same_number q p same)) places

  -- the same places are missing of a set as of what it is the set of
  pub missing_set : (hand : List (Option P)) (set places missed : List ℕ) → IsSetOf set places → IsSetOf missed (missing hand set) → IsSetOf missed (missing hand places)
  missing_set hand set places missed is left = record {
    increasing = left.increasing;
    members = λ p. left.members p ∙ in_missing hand set p ∙ ap (λ (b : Bool). not (is_held hand p) && b) (is.members p) ∙ sym (in_missing hand places p);
  }

  held_each : (hand : List (Option P)) (places : List ℕ) → ((p : ℕ) → is_in places p ≡ true → is_held hand p ≡ true) → are_held hand places ≡ true
  held_each hand [] each = refl
  held_each hand (x ∷ places) each =
      ap₂ (λ (a b : Bool). a && b) (each x (in_first x places)) (held_each hand places (λ p on. each p (behind (x == p) (is_in places p) on)))
    where
      behind : (b c : Bool) → c ≡ true → (b || c) ≡ true
      behind true c on = refl
      behind false c on = on

  held_same : (hand : List (Option P)) (one other : List ℕ) → ((p : ℕ) → is_in one p ≡ is_in other p) → are_held hand one ≡ are_held hand other
  held_same hand one other same = by_values (are_held hand one) (are_held hand other) refl refl
    where
      by_values : (b c : Bool) → are_held hand one ≡ b → are_held hand other ≡ c → b ≡ c
      by_values true true e f = refl
      by_values false false e f = refl
      by_values true false e f = absurd (cc (sym f ∙ held_each hand other (λ p on. held_in hand one p e (same p ∙ on))))
      by_values false true e f = absurd (cc (sym e ∙ held_each hand one (λ p on. held_in hand other p f (sym (same p) ∙ on))))

  -- and of two stages
  pub missing_stages : (hand : List (Option P)) (first second one other missed : List ℕ) → IsSetOf first one → IsSetOf second other
      → IsSetOf missed (missing hand (first ++ (if are_held hand first then second else [])))
      → IsSetOf missed (missing hand (one ++ (if are_held hand one then other else [])))
  missing_stages hand first second one other missed is_first is_second left = record { increasing = left.increasing; members = members }
    where
      next : (b : Bool) (p : ℕ) → is_in (if b then second else []) p ≡ is_in (if b then other else []) p
      next true p = is_second.members p
      next false p = refl

      both : (p : ℕ) → is_in (first ++ (if are_held hand first then second else [])) p ≡ is_in (one ++ (if are_held hand one then other else [])) p
      both p =
          list_any-append (λ q. q == p) first (if are_held hand first then second else [])
          ∙ ap₂ (λ (a b : Bool). a || b) (is_first.members p)
          (next (are_held hand first) p ∙ ap (λ (b : Bool). is_in (if b then other else []) p) (held_same hand first one is_first.members))
          ∙ sym (list_any-append (λ q. q == p) one (if are_held hand one then other else []))

      members : (p : ℕ) → is_in missed p ≡ is_in (missing hand (one ++ (if are_held hand one then other else []))) p
      members p =
          left.members p
          ∙ in_missing hand (first ++ (if are_held hand first then second else [])) p
          ∙ ap (λ (b : Bool). not (is_held hand p) && b) (both p)
          ∙ sym (in_missing hand (one ++ (if are_held hand one then other else [])) p)

  -- one more place, which is held or not
  missing_more : (hand : List (Option P)) (places : List ℕ) (place : ℕ) (b : Bool) → is_held hand place ≡ b
      → (p : ℕ) → is_in (missing hand (places ++ place ∷ [])) p ≡ (is_in (missing hand places) p || ((place == p) && not b))
  missing_more hand places place b e p =
      in_missing hand (places ++ place ∷ []) p
      ∙ ap (λ (c : Bool). not (is_held hand p) && c) (list_any-append (λ q. q == p) places (place ∷ []))
      ∙ by_tests (is_held hand p) (is_in places p) (place == p) (λ same. sym (ap (λ (q : ℕ). is_held hand q) (same_number place p same)) ∙ e)
      ∙ ap (λ (c : Bool). c || ((place == p) && not b)) (sym (in_missing hand places p))
    where
      by_tests : (h i s : Bool) → (s ≡ true → h ≡ b) → (not h && (i || (s || false))) ≡ ((not h && i) || (s && not b))
      by_tests true i true same = ap (λ (c : Bool). not c) (same refl)
      by_tests true i false same = refl
      by_tests false true s same = refl
      by_tests false false true same = ap (λ (c : Bool). not c) (same refl)
      by_tests false false false same = refl

  pub missing_next : (hand : List (Option P)) (places : List ℕ) (place : ℕ) (set next : List ℕ) → is_held hand place ≡ false → IsSetOf set (missing hand places)
      → IsSetOf next (set ++ place ∷ []) → IsSetOf next (missing hand (places ++ place ∷ []))
  missing_next hand places place set next free is more = record { increasing = more.increasing; members = members }
    where
      none : (b : Bool) → (b || false) ≡ (b && true)
      none true = refl
      none false = refl

      members : (p : ℕ) → is_in next p ≡ is_in (missing hand (places ++ place ∷ [])) p
      members p =
          more.members p
          ∙ list_any-append (λ q. q == p) set (place ∷ [])
          ∙ ap₂ (λ (a b : Bool). a || b) (is.members p) (none (place == p))
          ∙ sym (missing_more hand places place false free p)

  pub missing_held : (hand : List (Option P)) (places : List ℕ) (place : ℕ) (set : List ℕ) → is_held hand place ≡ true → IsSetOf set (missing hand places)
      → IsSetOf set (missing hand (places ++ place ∷ []))
  missing_held hand places place set held is = record { increasing = is.increasing; members = members }
    where
      none : (a b : Bool) → a ≡ (a || (b && false))
      none true b = refl
      none false true = refl
      none false false = refl

      members : (p : ℕ) → is_in set p ≡ is_in (missing hand (places ++ place ∷ [])) p
      members p = is.members p ∙ none (is_in (missing hand places) p) (place == p) ∙ sym (missing_more hand places place true held p)
