-- The order of the slots that are out with a seat.
use Rattle.std.proofs.Common.{◌≡◌, ◌≢◌, ℕ, zero, suc, ◌+◌, ◌-◌, ◌<◌, ◌≤◌, Bool, not, List, [], ◌∷◌, ◌++◌, length, length-append, take, drop, get_or, slice_get, eqb, eq-eqb, ne_eqb, cond, Option, None, Some, refl, sym, ◌∙◌, ap, arith, append_assoc}
use mathlib.Core.Option.{some, some-injective, some-ne-none}
use lib.ListN.{get_elem?}
use Rattle.atomic_table.specs.Table.{turned}
use Rattle.atomic_table.proofs.Lists.{drop_at}
use native.Mathlib.Decide.{ℕ_discrete}
use Rattle.part_table.specs.Known.{without}
use Rattle.part_table.specs.Lines.{slot_of}
use Rattle.part_table.specs.Passes.{empties, times}

pub times_append : (i : ℕ) (xs ys : List ℕ) → times i (xs ++ ys) ≡ times i xs + times i ys
times_append i [] ys = omega arith
times_append i (x ∷ xs) ys = let h = times_append i xs ys in omega arith

-- what stands before a place and behind it
times_parts : (i k : ℕ) (xs : List ℕ) → times i (take k xs) + times i (drop k xs) ≡ times i xs
times_parts i zero [] = refl
times_parts i zero (x ∷ xs) = omega arith
times_parts i (suc k) [] = refl
times_parts i (suc k) (x ∷ xs) = let h = times_parts i k xs in omega arith

-- a list that was turned has each number as often
pub times_turned : (i k : ℕ) (xs : List ℕ) → times i (drop k xs ++ take k xs) ≡ times i xs
times_turned i k xs = let a = times_append i (drop k xs) (take k xs) in let b = times_parts i k xs in omega arith

pub times_same : (i j : ℕ) → i ≡ j → times i (j ∷ []) ≡ 1
times_same i j e = ap (λ b. cond b 1 0 + 0) (eq-eqb i j e)

pub times_other : (i j : ℕ) → i ≢ j → times i (j ∷ []) ≡ 0
times_other i j ne = ap (λ b. cond b 1 0 + 0) (ne_eqb i j ne)

pub empties_snoc : (S : Type 0) (xs : List ℕ) (a : ℕ) → empties {S = S} (xs ++ a ∷ []) ≡ empties xs ++ (slot_of a, None) ∷ []
empties_snoc S [] a = refl
empties_snoc S (x ∷ xs) a = ap (λ (q : List (ℕ × Option S)). (slot_of x, None) ∷ q) (empties_snoc S xs a)

module _ {A : Type 0} where
  pub at_within : (l : List A) (i : ℕ) → i < length l → (a : A) × (get_elem? l i ≡ some a)
  at_within [] i h = absurd (omega arith)
  at_within (x ∷ xs) zero h = (x, refl)
  at_within (x ∷ xs) (suc i) h = at_within xs i (omega arith)

  pub take_next : (l : List A) (i : ℕ) (a : A) → get_elem? l i ≡ some a → take (i + 1) l ≡ take i l ++ a ∷ []
  take_next [] i a e = absurd (some-ne-none a (sym e))
  take_next (x ∷ xs) zero a e = ap (λ (y : A). y ∷ []) (some-injective x a e)
  take_next (x ∷ xs) (suc i) a e = let more : suc i + 1 ≡ suc (i + 1) = omega arith in rw more (ap (λ (l : List A). x ∷ l) (take_next xs i a e))

  pub as_slice : (l : List A) (i : ℕ) (a : A) → get_elem? l i ≡ some a → slice_get l i ≡ Some a
  as_slice [] i a e = absurd (some-ne-none a (sym e))
  as_slice (x ∷ xs) zero a e = ap (λ (y : A). Some y) (some-injective x a e)
  as_slice (x ∷ xs) (suc i) a e = as_slice xs i a e

  pub drop_next : (l : List A) (i : ℕ) (a : A) → slice_get l i ≡ Some a → drop i l ≡ a ∷ drop (i + 1) l
  drop_next [] i a e = absurd (cc e)
  drop_next (x ∷ xs) zero a e = let same : x ≡ a = cc e in ap (λ (y : A). y ∷ xs) same
  drop_next (x ∷ xs) (suc i) a e = let more : suc i + 1 ≡ suc (i + 1) = omega arith in rw more (drop_next xs i a e)

-- one turn more of the slots
pub turn_next : (S : Type 0) (xs : List ℕ) (i : ℕ) → i < length xs → turned (empties {S = S} (drop i xs ++ take i xs)) ≡ empties (drop (i + 1) xs ++ take (i + 1) xs)
turn_next S xs i lt =
    let t = at_within xs i lt in
    let a = t.0 in
    let d = drop (suc i) xs in
    let begins : drop i xs ++ take i xs ≡ a ∷ (d ++ take i xs) = ap (λ (q : List ℕ). q ++ take i xs) (drop_at xs i a t.1) in
    let one : suc i ≡ i + 1 = omega arith in
    ap (λ (q : List ℕ). turned (empties {S = S} q)) begins ∙ sym (empties_snoc S (d ++ take i xs) a)
    ∙ ap (λ (q : List ℕ). empties {S = S} q) (append_assoc d (take i xs) (a ∷ []) ∙ ap (λ (q : List ℕ). d ++ q) (sym (take_next xs i a t.1)) ∙ ap (λ n. drop n xs ++ take (i + 1) xs) one)

-- a number that stands once behind a place, and not at it, stands once behind the next
pub not_here : (xs : List ℕ) (k i : ℕ) → k < length xs → get_or xs k 0 ≢ i → times i (drop k xs) ≡ 1 → times i (drop (k + 1) xs) ≡ 1
not_here [] k i lt ne once = absurd (omega arith)
not_here (x ∷ xs) zero i lt ne once = less (cond (eqb i x) 1 0) (times i xs) (ap (λ b. cond b 1 0) (ne_eqb i x (λ e. ne (sym e)))) once
  where
    less : (a b : ℕ) → a ≡ 0 → a + b ≡ 1 → b ≡ 1
    less a b h k = omega arith
not_here (x ∷ xs) (suc k) i lt ne once =
    let r : times i (drop (k + 1) xs) ≡ 1 = not_here xs k i (omega arith) ne once in
    let more : suc k + 1 ≡ suc (k + 1) = omega arith in
    rw more r

pub none_behind : (xs : List ℕ) (k i : ℕ) → length xs ≤ k → times i (drop k xs) ≡ 1 → ⊥
none_behind [] zero i le once = omega arith
none_behind [] (suc k) i le once = omega arith
none_behind (x ∷ xs) zero i le once = omega arith
none_behind (x ∷ xs) (suc k) i le once = none_behind xs k i (omega arith) once

pub found_at : (xs : List ℕ) (k i : ℕ) → k < length xs → get_or xs k 0 ≡ i → slice_get xs k ≡ Some i
found_at [] k i lt is = absurd (omega arith)
found_at (x ∷ xs) zero i lt is = ap (λ (y : ℕ). Some y) is
found_at (x ∷ xs) (suc k) i lt is = found_at xs k i (omega arith) is

-- ---- the parts that are held but one, in their order

without_here : (i x : ℕ) (xs : List ℕ) → x ≡ i → without i (x ∷ xs) ≡ without i xs
without_here i x xs same = ap (λ (b : Bool). cond (not b) (x ∷ without i xs) (without i xs)) (eq-eqb x i same)

without_else : (i x : ℕ) (xs : List ℕ) → x ≢ i → without i (x ∷ xs) ≡ x ∷ without i xs
without_else i x xs other = ap (λ (b : Bool). cond (not b) (x ∷ without i xs) (without i xs)) (ne_eqb x i other)

once_here : (i x : ℕ) (xs : List ℕ) → x ≡ i → times i (x ∷ xs) ≡ 1 + times i xs
once_here i x xs same = ap (λ (b : Bool). cond b 1 0 + times i xs) (eq-eqb i x (sym same))

once_else : (i x : ℕ) (xs : List ℕ) → x ≢ i → times i (x ∷ xs) ≡ times i xs
once_else i x xs other = ap (λ (b : Bool). cond b 1 0 + times i xs) (ne_eqb i x (λ same. other (sym same))) ∙ (omega arith)

none_without : (i : ℕ) (xs : List ℕ) → times i xs ≡ 0 → without i xs ≡ xs
none_without i [] e = refl
none_without i (x ∷ xs) e = by_first (ℕ_discrete x i) (none_without i xs)
  where
    by_first : Dec (x ≡ i) → (times i xs ≡ 0 → without i xs ≡ xs) → without i (x ∷ xs) ≡ x ∷ xs
    by_first (yes same) later = absurd (omega (arith, once_here i x xs same, e))
    by_first (no other) later = without_else i x xs other ∙ ap (λ (l : List ℕ). x ∷ l) (later (sym (once_else i x xs other) ∙ e))

stands_once : (i p : ℕ) (xs : List ℕ) → slice_get xs p ≡ Some i → 1 ≤ times i xs
stands_once i zero [] at = absurd (cc at)
stands_once i (suc p) [] at = absurd (cc at)
stands_once i zero (x ∷ xs) at = let same : x ≡ i = cc at in let n = once_here i x xs same in omega arith
stands_once i (suc p) (x ∷ xs) at = let n = stands_once i p xs at in omega arith

without_at : (i p : ℕ) (xs : List ℕ) → slice_get xs p ≡ Some i → times i xs ≡ 1 → without i xs ≡ take p xs ++ drop (p + 1) xs
without_at i zero [] at one = absurd (cc)
without_at i (suc p) [] at one = absurd (cc at)
without_at i zero (x ∷ xs) at one =
    let same : x ≡ i = cc at in
    let n = once_here i x xs same in
    without_here i x xs same ∙ none_without i xs (omega (arith, n, one))
without_at i (suc p) (x ∷ xs) at one = by_first (ℕ_discrete x i) (without_at i p xs at)
  where
    by_first : Dec (x ≡ i) → (times i xs ≡ 1 → without i xs ≡ take p xs ++ drop (p + 1) xs) → without i (x ∷ xs) ≡ take (suc p) (x ∷ xs) ++ drop (suc p + 1) (x ∷ xs)
    by_first (yes same) later = absurd (let n = once_here i x xs same in let m = stands_once i p xs at in omega (arith, n, m, one))
    by_first (no other) later =
        let more : suc p + 1 ≡ suc (p + 1) = omega arith in
        without_else i x xs other ∙ ap (λ (l : List ℕ). x ∷ l) (later (sym (once_else i x xs other) ∙ one))
        ∙ ap (λ (n : ℕ). x ∷ take p xs ++ drop n (x ∷ xs)) (sym more)

before_long : (p i : ℕ) (xs : List ℕ) → slice_get xs p ≡ Some i → length (take p xs) ≡ p
before_long zero i [] at = refl
before_long (suc p) i [] at = absurd (cc at)
before_long zero i (x ∷ xs) at = refl
before_long (suc p) i (x ∷ xs) at = ap suc (before_long p i xs at)

drop_first : (xs ys : List ℕ) → drop (length xs) (xs ++ ys) ≡ ys
drop_first [] ys = refl
drop_first (x ∷ xs) ys = drop_first xs ys

take_first : (xs ys : List ℕ) → take (length xs) (xs ++ ys) ≡ xs
take_first [] ys = refl
take_first (x ∷ xs) ys = ap (λ (l : List ℕ). x ∷ l) (take_first xs ys)

-- the parts behind one and those before it, turned back, are all but it in their order
pub back_in_order : (i p : ℕ) (xs behind : List ℕ) → slice_get xs p ≡ Some i → times i xs ≡ 1 → behind ≡ drop (p + 1) xs ++ take p xs
    → drop (length behind - p) behind ++ take (length behind - p) behind ≡ without i xs
back_in_order i p xs behind at one is =
    let d = drop (p + 1) xs in
    let t = take p xs in
    let long : length behind ≡ length d + length t = ap length is ∙ length-append d t in
    let before = before_long p i xs at in
    let so : length behind - p ≡ length d = omega (arith, long, before) in
    ap (λ (n : ℕ). drop n behind ++ take n behind) so
    ∙ ap (λ (l : List ℕ). drop (length d) l ++ take (length d) l) is
    ∙ ap (λ (l : List ℕ). l ++ take (length d) (d ++ t)) (drop_first d t)
    ∙ ap (λ (l : List ℕ). t ++ l) (take_first d t)
    ∙ sym (without_at i p xs at one)

-- what is behind one that was brought forward, once that is gone
pub behind_one : (i p : ℕ) (xs first others : List ℕ) → slice_get xs p ≡ Some i → first ≡ drop p xs ++ take p xs → others ≡ drop 1 first → others ≡ drop (p + 1) xs ++ take p xs
behind_one i p xs first others at turned less = less ∙ ap (drop 1) (turned ∙ ap (λ (l : List ℕ). l ++ take p xs) (drop_next xs p i at))

-- a part that is taken and given back at once leaves the others as they were
pub without_again : (i : ℕ) (xs : List ℕ) → times i xs ≡ 0 → without i (i ∷ xs) ≡ xs
without_again i xs none = without_here i i xs refl ∙ none_without i xs none

-- where no number stands, the list is empty
pub none_stands : (xs : List ℕ) → ((i : ℕ) → times i xs ≡ 0) → xs ≡ []
none_stands [] none = refl
none_stands (x ∷ xs) none = absurd (let n = once_here x x xs refl in let z = none x in omega arith)
