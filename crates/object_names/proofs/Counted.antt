-- Rows that have one of some names are counted by looking the names up.
use Rattle.std.proofs.Common.{◌≡◌, ◌∙◌, ap, refl, sym, ℕ, ◌+◌, ◌≤◌, Bool, true, false, ◌||◌, cond, not, List, [], ◌∷◌, ◌++◌, drop, filter, if◌then◌else◌, length, slice_get, subst, suc, take, zero, Some, arith}
use Rattle.std.specs.List.{AllByRecursion, IsDistinct}
use Rattle.std.specs.Map.{keys_of, lookup}
use Rattle.mms_types.specs.declared.key.Key.{Key}
use Rattle.mms_types.specs.Order.{key_eq}
use Rattle.mms_types.proofs.Precedence.{key_eq_tells}
use Rattle.object_names.specs.declared.borrowed.KeyRef.{KeyRef}
use Rattle.object_names.specs.Borrowed.{key_meant}
use Rattle.object_names.specs.BorrowedHash.{borrowed_eq, equal_alike}
use Rattle.object_names.specs.Selected.{counted_by, is_among}
use Rattle.object_names.proofs.Listed.{any_more}

-- a key that is the same as one that differs from another differs from it as well
pub differs : (a b c : Key) → key_eq a b ≡ true → key_eq b c ≡ false → key_eq a c ≡ false
differs a b c same other = ap (λ (k : Key). key_eq k c) ((key_eq_tells a b).0 same) ∙ other

-- a row counts by whether it has a name, and by its value; without a name it doesn't
module _ {X : Type 0} (p : Bool → X → Bool) (no : (x : X) → p false x ≡ false) where
  abbrev pub bit : Bool → ℕ
  bit b = if b then 1 else 0

  abbrev pub count : (Key → Bool) → List (Key × X) → ℕ
  count among rows = length (filter (λ row. p (among row.0) row.1) rows)

  count_first : (among : Key → Bool) (k : Key) (x : X) (rows : List (Key × X)) → count among ((k, x) ∷ rows) ≡ bit (p (among k) x) + count among rows
  count_first among k x rows = by_test (p (among k) x)
    where
      by_test : (b : Bool) → length (cond b ((k, x) ∷ filter (λ row. p (among row.0) row.1) rows) (filter (λ row. p (among row.0) row.1) rows)) ≡ bit b + count among rows
      by_test true = omega arith
      by_test false = omega arith

  module _ (names : List KeyRef) (new : KeyRef) where
    abbrev more : Key → Bool
    more key = is_among (names ++ new ∷ []) key

    grown : (key : Key) → more key ≡ (is_among names key || key_eq (key_meant new) key)
    grown key = any_more (λ name. key_eq (key_meant name) key) names new

    not_new : (key : Key) → key_eq (key_meant new) key ≡ false → more key ≡ is_among names key
    not_new key other = grown key ∙ ap (λ (b : Bool). is_among names key || b) other ∙ or_false (is_among names key)
      where
        or_false : (b : Bool) → (b || false) ≡ b
        or_false true = refl
        or_false false = refl

    -- where no row has the new name
    none_more : (key : Key) → key_eq (key_meant new) key ≡ true → (rows : List (Key × X)) → AllByRecursion (λ other. key_eq key other ≡ false) (keys_of rows) → count more rows ≡ count (is_among names) rows
    none_more key same [] apart = refl
    none_more key same ((k, x) ∷ rows) apart =
        let here : more k ≡ is_among names k = not_new k (differs (key_meant new) key k same apart.0) in
        count_first more k x rows
        ∙ ap (λ (b : Bool). bit (p b x) + count more rows) here
        ∙ ap (λ (n : ℕ). bit (p (is_among names k) x) + n) (none_more key same rows apart.1)
        ∙ sym (count_first (is_among names) k x rows)

    pub counted_more : ((key : Key) → is_among names key ≡ true → key_eq (key_meant new) key ≡ false) → (rows : List (Key × X)) → IsDistinct key_eq (keys_of rows)
        → count more rows ≡ count (is_among names) rows + counted_by p (lookup (key_eq (key_meant new)) rows)
    unfolding IsDistinct
    counted_more apart [] distinct = refl
    counted_more apart ((k, x) ∷ rows) distinct = by_name (key_eq (key_meant new) k) refl (counted_more apart rows distinct.1)
      where
        only_new : (b : Bool) → (b ≡ true → key_eq (key_meant new) k ≡ false) → key_eq (key_meant new) k ≡ true → b ≡ false
        only_new true h e = absurd (let f = h refl in cc (sym e ∙ f))
        only_new false h e = refl

        by_name : (b : Bool) → key_eq (key_meant new) k ≡ b → count more rows ≡ count (is_among names) rows + counted_by p (lookup (key_eq (key_meant new)) rows)
            → count more ((k, x) ∷ rows) ≡ count (is_among names) ((k, x) ∷ rows) + counted_by p (cond b (Some x) (lookup (key_eq (key_meant new)) rows))
        by_name true e later =
            let other : is_among names k ≡ false = only_new (is_among names k) (apart k) e in
            let has : more k ≡ true = grown k ∙ ap (λ (b : Bool). b || key_eq (key_meant new) k) other ∙ e in
            let first : count more ((k, x) ∷ rows) ≡ bit (p true x) + count more rows = count_first more k x rows ∙ ap (λ (b : Bool). bit (p b x) + count more rows) has in
            let before : count (is_among names) ((k, x) ∷ rows) ≡ 0 + count (is_among names) rows =
            count_first (is_among names) k x rows ∙ ap (λ (b : Bool). bit (p b x) + count (is_among names) rows) other ∙ ap (λ (b : Bool). bit b + count (is_among names) rows) (no x) in
            let rest = none_more k e rows distinct.0 in
            omega (arith, first, before, rest)
        by_name false e later =
            let same : more k ≡ is_among names k = not_new k e in
            let first : count more ((k, x) ∷ rows) ≡ bit (p (is_among names k) x) + count more rows = count_first more k x rows ∙ ap (λ (b : Bool). bit (p b x) + count more rows) same in
            let before = count_first (is_among names) k x rows in
            omega (arith, first, before, later)

-- a name of a set is none of those before it
pub apart : (xs : List KeyRef) (y : KeyRef) (zs : List KeyRef) → IsDistinct borrowed_eq (xs ++ y ∷ zs) → (key : Key) → is_among xs key ≡ true → key_eq (key_meant y) key ≡ false
unfolding IsDistinct
apart [] y zs distinct key there = absurd cc
apart (x ∷ xs) y zs distinct key there = by_first (key_eq (key_meant x) key) refl (apart xs y zs distinct.1 key)
  where
    at : (l : List KeyRef) → AllByRecursion (λ z. borrowed_eq x z ≡ false) (l ++ y ∷ zs) → borrowed_eq x y ≡ false
    at [] all = all.0
    at (z ∷ l) all = at l all.1

    differ : (b : Bool) → key_eq (key_meant y) key ≡ b → key_eq (key_meant x) key ≡ true → b ≡ false
    differ true e same =
        let one : key_meant y ≡ key = (key_eq_tells (key_meant y) key).0 e in
        let other : key_meant x ≡ key = (key_eq_tells (key_meant x) key).0 same in
        let equal : key_eq (key_meant x) (key_meant y) ≡ true = (key_eq_tells (key_meant x) (key_meant y)).1 (other ∙ sym one) in
        absurd (let none = at xs distinct.0 in let alike = equal_alike x y in cc (sym none ∙ alike ∙ equal))
    differ false e same = refl

    by_first : (b : Bool) → key_eq (key_meant x) key ≡ b → (is_among xs key ≡ true → key_eq (key_meant y) key ≡ false) → key_eq (key_meant y) key ≡ false
    by_first true e later = differ (key_eq (key_meant y) key) refl e
    by_first false e later = later (sym (ap (λ (b : Bool). b || is_among xs key) e) ∙ there)

-- ---- the names of a set one after the other

split_at : (keys : List KeyRef) (i : ℕ) (k : KeyRef) → slice_get keys i ≡ Some k → (take (i + 1) keys ≡ take i keys ++ k ∷ []) × (keys ≡ take i keys ++ k ∷ drop (i + 1) keys)
split_at [] zero k e = absurd cc
split_at [] (suc i) k e = absurd cc
split_at (x ∷ keys) zero k e = let same : x ≡ k = cc in (ap (λ (y : KeyRef). y ∷ []) same, ap (λ (y : KeyRef). y ∷ keys) same)
split_at (x ∷ keys) (suc i) k e =
    let both = split_at keys i k e in
    let more : suc i + 1 ≡ suc (i + 1) = omega arith in (
      ap (λ (n : ℕ). take n (x ∷ keys)) more ∙ ap (λ (l : List KeyRef). x ∷ l) both.0,
      ap (λ (l : List KeyRef). x ∷ l) both.1 ∙ ap (λ (n : ℕ). x ∷ take i keys ++ k ∷ drop n (x ∷ keys)) (sym more),
    )

module _ {X : Type 0} (p : Bool → X → Bool) (no : (x : X) → p false x ≡ false) where
  pub counted_none : (rows : List (Key × X)) → count p no (is_among []) rows ≡ 0
  counted_none [] = refl
  counted_none ((k, x) ∷ rows) =
      let first = count_first p no (is_among []) k x rows in
      let out : bit p no (p false x) ≡ 0 = ap (bit p no) (no x) in
      let rest = counted_none rows in
      omega (arith, first, out, rest)

  pub counted_next : (keys : List KeyRef) (i : ℕ) (k : KeyRef) → slice_get keys i ≡ Some k → IsDistinct borrowed_eq keys → (rows : List (Key × X)) → IsDistinct key_eq (keys_of rows)
      → count p no (is_among (take (i + 1) keys)) rows ≡ count p no (is_among (take i keys)) rows + counted_by p (lookup (key_eq (key_meant k)) rows)
  counted_next keys i k at distinct rows once =
      let both = split_at keys i k at in
      ap (λ (l : List KeyRef). count p no (is_among l) rows) both.0
      ∙ counted_more p no (take i keys) k (apart (take i keys) k (drop (i + 1) keys) (subst (IsDistinct borrowed_eq) both.1 distinct)) rows once

pub take_whole : (keys : List KeyRef) (n : ℕ) → length keys ≤ n → take n keys ≡ keys
take_whole [] zero few = refl
take_whole [] (suc n) few = refl
take_whole (k ∷ keys) zero few = absurd (omega arith)
take_whole (k ∷ keys) (suc n) few = ap (λ (l : List KeyRef). k ∷ l) (take_whole keys n (omega (arith, few)))

-- where no row goes all are left
pub none_goes : {A : Type 0} (p : A → Bool) (xs : List A) → length (filter p xs) ≡ 0 → filter (λ x. not (p x)) xs ≡ xs
none_goes p [] none = refl
none_goes {A} p (x ∷ xs) none = by_first (p x) refl (none_goes p xs) none
  where
    by_first : (b : Bool) → p x ≡ b → (length (filter p xs) ≡ 0 → filter (λ y. not (p y)) xs ≡ xs) → length (cond b (x ∷ filter p xs) (filter p xs)) ≡ 0
        → cond (not b) (x ∷ filter (λ y. not (p y)) xs) (filter (λ y. not (p y)) xs) ≡ x ∷ xs
    by_first true e later h = absurd (omega (arith, h))
    by_first false e later h = ap (λ (l : List A). x ∷ l) (later h)
