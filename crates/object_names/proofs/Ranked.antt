-- Rows that stay are numbered anew, and the index with them.
use Rattle.std.proofs.Common.{◌≡◌, ◌≢◌, ◌∙◌, ap, sym, refl, subst, ℕ, zero, suc, ◌+◌, ◌-◌, ◌<◌, ◌≤◌, ◌⊎◌, inl, inr, Bool, true, false, cond, not, if◌then◌else◌, nat_eq, List, [], ◌∷◌, filter, get_or, length, map, set, slice_get, take, Some, arith}
use Rattle.std.specs.List.{AllByRecursion}
use Rattle.std.specs.List.Sorted.{IsStrictlySortedBy}
use Rattle.std.specs.Map.{keys_of}
use Rattle.std.specs.declared.cmp.Ordering.TheVariants.{Less}
use Rattle.std.proofs.lemmas.Bool.{cases_lt}
use Rattle.std.proofs.lemmas.List.{get_or-set_other, get_or-set_same, length-map}
use Rattle.mms_types.specs.declared.key.Key.{Key}
use Rattle.mms_types.specs.Order.{key_order}
use Rattle.object_names.specs.Index.{AreRanks, IsIndexOf, key_at, sum_below}
use Rattle.object_names.proofs.Places.{below_same, left_sum, map_same, sum_filter, sum_map, within}

-- the rows in front of a place have their ranks
abbrev pub AreRanksUpTo : {X : Type 0} → (X → Bool) → List X → List ℕ → ℕ → Type 0
AreRanksUpTo {X} stays rows ranks n = (place : ℕ) (row : X) → place < n → slice_get rows place ≡ Some row
    → get_or ranks place 0 ≡ (if stays row then length (filter stays (take (suc place) rows)) else 0)

module _ {X : Type 0} (stays : X → Bool) where
  pub kept_more : (rows : List X) (n : ℕ) (row : X) → slice_get rows n ≡ Some row → length (filter stays (take (suc n) rows)) ≡ length (filter stays (take n rows)) + (if stays row then 1 else 0)
  kept_more [] zero row at = absurd cc
  kept_more [] (suc n) row at = absurd cc
  kept_more (r ∷ rows) zero row at =
      let same : r ≡ row = cc in
      by (stays r) ∙ ap (λ (x : X). 0 + (if stays x then 1 else 0)) same
    where
      by : (b : Bool) → length (cond b (r ∷ []) []) ≡ 0 + (if b then 1 else 0)
      by true = omega arith
      by false = omega arith
  kept_more (r ∷ rows) (suc n) row at = by (stays r) (kept_more rows n row at)
    where
      by : (b : Bool) → length (filter stays (take (suc n) rows)) ≡ length (filter stays (take n rows)) + (if stays row then 1 else 0)
          → length (cond b (r ∷ filter stays (take (suc n) rows)) (filter stays (take (suc n) rows))) ≡ length (cond b (r ∷ filter stays (take n rows)) (filter stays (take n rows))) + (if stays row then 1 else 0)
      by true rest = omega (arith, rest)
      by false rest = rest

  pub ranked_more : (rows : List X) (ranks new : List ℕ) (n kept rank : ℕ) (row : X) → AreRanksUpTo stays rows ranks n → slice_get rows n ≡ Some row → n < length ranks
      → kept ≡ length (filter stays (take (suc n) rows)) → rank ≡ (if stays row then kept else 0) → new ≡ set ranks n rank → AreRanksUpTo stays rows new (n + 1)
  ranked_more rows ranks new n kept rank row done here small count is put = λ place other less at. choose place other less at (cases_lt place n)
    where
      choose : (place : ℕ) (other : X) → place < n + 1 → slice_get rows place ≡ Some other → (place < n) ⊎ (n ≤ place) → get_or new place 0 ≡ (if stays other then length (filter stays (take (suc place) rows)) else 0)
      choose place other less at (inl before) =
          let apart : place ≢ n = λ e. omega (arith, before, e) in
          ap (λ l. get_or l place 0) put ∙ get_or-set_other ranks n place rank 0 apart ∙ done place other before at
      choose place other less at (inr behind) =
          let same : n ≡ place = omega (arith, less, behind) in
          let one : Some row ≡ Some other = sym here ∙ ap (slice_get rows) same ∙ at in
          let equal : row ≡ other = cc in
          ap (λ l. get_or l place 0) put ∙ ap (λ m. get_or (set ranks n rank) m 0) (sym same) ∙ get_or-set_same ranks n rank 0 small ∙ is
          ∙ ap (λ (x : X). if stays x then kept else 0) equal ∙ ap (λ m. if stays other then m else 0) (count ∙ ap (λ m. length (filter stays (take (suc m) rows))) same)

-- ---- keys of rows that stay

sorted_some : (k : ℕ → Key) (b : ℕ → Bool) (places : List ℕ) → IsStrictlySortedBy key_order (map k places) → IsStrictlySortedBy key_order (map k (filter b places))
unfolding IsStrictlySortedBy
sorted_some k b [] sorted = tt
sorted_some k b (p ∷ places) sorted = by (b p) (sorted_some k b places sorted.1)
  where
    some : (places : List ℕ) → AllByRecursion (λ x. key_order (k p) x ≡ Less) (map k places) → AllByRecursion (λ x. key_order (k p) x ≡ Less) (map k (filter b places))
    some [] all = tt
    some (q ∷ places) all = by_q (b q) (some places all.1)
      where
        by_q : (c : Bool) → AllByRecursion (λ x. key_order (k p) x ≡ Less) (map k (filter b places)) → AllByRecursion (λ x. key_order (k p) x ≡ Less) (map k (cond c (q ∷ filter b places) (filter b places)))
        by_q true rest = (all.0, rest)
        by_q false rest = rest

    by : (c : Bool) → IsStrictlySortedBy key_order (map k (filter b places)) → IsStrictlySortedBy key_order (map k (cond c (p ∷ filter b places) (filter b places)))
    by true rest = (some places sorted.0, rest)
    by false rest = rest

map_twice : {X Y Z : Type 0} (f : Y → Z) (g : X → Y) (xs : List X) → map f (map g xs) ≡ map (λ x. f (g x)) xs
map_twice f g [] = refl
map_twice f g (x ∷ xs) = ap (λ ys. f (g x) ∷ ys) (map_twice f g xs)

all_kept : (P : ℕ → Type 0) (b : ℕ → Bool) (n : ℕ) (places : List ℕ) → ((p : ℕ) → p < n → b p ≡ true → P p) → AllByRecursion (λ p. p < n) places → AllByRecursion P (filter b places)
all_kept P b n [] h all = tt
all_kept P b n (p ∷ places) h all = by (b p) refl (all_kept P b n places h all.1)
  where
    by : (c : Bool) → b p ≡ c → AllByRecursion P (filter b places) → AllByRecursion P (cond c (p ∷ filter b places) (filter b places))
    by true e rest = (h p all.0 e, rest)
    by false e rest = rest

module _ {T : Type 0} (stays : Key × T → Bool) where
  row_there : (rows : List (Key × T)) (place : ℕ) → place < length rows → (row : Key × T) × (slice_get rows place ≡ Some row)
  row_there [] place small = absurd (omega (arith, small))
  row_there (row ∷ rows) zero small = (row, refl)
  row_there (row ∷ rows) (suc place) small = row_there rows place (omega (arith, small))

  -- a row that stays has its key at its new place
  key_stays : (rows : List (Key × T)) (place : ℕ) (row : Key × T) → slice_get rows place ≡ Some row → stays row ≡ true
      → key_at (keys_of (filter stays rows)) (length (filter stays (take place rows))) ≡ key_at (keys_of rows) place
  key_stays [] zero row at stay = absurd cc
  key_stays [] (suc place) row at stay = absurd cc
  key_stays (r ∷ rows) zero row at stay =
      let same : r ≡ row = cc in
      ap (λ b. key_at (keys_of (cond b (r ∷ filter stays rows) (filter stays rows))) 0) (ap stays same ∙ stay)
  key_stays (r ∷ rows) (suc place) row at stay = by (stays r) (key_stays rows place row at stay)
    where
      by : (b : Bool) → key_at (keys_of (filter stays rows)) (length (filter stays (take place rows))) ≡ key_at (keys_of rows) place
          → key_at (keys_of (cond b (r ∷ filter stays rows) (filter stays rows))) (length (cond b (r ∷ filter stays (take place rows)) (filter stays (take place rows)))) ≡ key_at (keys_of rows) place
      by true rest = rest
      by false rest = rest

  kept_key : (rows : List (Key × T)) (ranks : List ℕ) → AreRanks stays rows ranks → (place : ℕ) → place < length rows → not (nat_eq (get_or ranks place 0) 0) ≡ true
      → key_at (keys_of (filter stays rows)) (get_or ranks place 0 - 1) ≡ key_at (keys_of rows) place
  kept_key rows ranks are place small some =
      let found = row_there rows place small in
      by found.0 found.1 (stays found.0) refl
    where
      by : (row : Key × T) → slice_get rows place ≡ Some row → (b : Bool) → stays row ≡ b → key_at (keys_of (filter stays rows)) (get_or ranks place 0 - 1) ≡ key_at (keys_of rows) place
      by row at true stay =
          let rank : get_or ranks place 0 ≡ length (filter stays (take (suc place) rows)) = are place row at ∙ ap (λ b. if b then length (filter stays (take (suc place) rows)) else 0) stay in
          let more : length (filter stays (take (suc place) rows)) ≡ length (filter stays (take place rows)) + 1 = kept_more stays rows place row at ∙ ap (λ b. length (filter stays (take place rows)) + (if b then 1 else 0)) stay in
          let new : get_or ranks place 0 - 1 ≡ length (filter stays (take place rows)) = omega (arith, rank, more) in
          ap (key_at (keys_of (filter stays rows))) new ∙ key_stays rows place row at stay
      by row at false stay =
          let rank : get_or ranks place 0 ≡ 0 = are place row at ∙ ap (λ b. if b then length (filter stays (take (suc place) rows)) else 0) stay in
          absurd (let none = sym (ap (λ n. not (nat_eq n 0)) rank) ∙ some in cc none)

  pub leave_index : (rows : List (Key × T)) (places ranks : List ℕ) → IsIndexOf (keys_of rows) places → AreRanks stays rows ranks
      → IsIndexOf (keys_of (filter stays rows)) (map (λ place. get_or ranks place 0 - 1) (filter (λ place. not (nat_eq (get_or ranks place 0) 0)) places))
  leave_index rows places ranks index are = record {
    each = λ f.
        let count : length (keys_of rows) ≡ length rows = length-map rows (λ (row : Key × T). row.0) in
        let left : length (keys_of (filter stays rows)) ≡ length (filter stays rows) = length-map (filter stays rows) (λ (row : Key × T). row.0) in
        sum_map f g (filter b places) ∙ sum_filter (λ place. f (g place)) b places ∙ index.each (λ place. if b place then f (g place) else 0)
        ∙ ap (sum_below (λ place. if b place then f (g place) else 0)) count
        ∙ left_sum stays f 0 rows (λ place. get_or ranks place 0) (λ place row at. are place row at ∙ ap (λ n. if stays row then n else 0) (let zero_more : length (filter stays (take (suc place) rows)) ≡ 0 + length (filter stays (take (suc place) rows)) = omega arith in zero_more))
        ∙ below_same (λ i. f (0 + i)) f (length (filter stays rows)) (λ i. let same : 0 + i ≡ i = omega arith in ap f same)
        ∙ ap (sum_below f) (sym left);
    ascend =
        let count : length (keys_of rows) ≡ length rows = length-map rows (λ (row : Key × T). row.0) in
        let same : map (key_at (keys_of (filter stays rows))) (map g (filter b places)) ≡ map (key_at (keys_of rows)) (filter b places) =
        map_twice (key_at (keys_of (filter stays rows))) g (filter b places)
        ∙ map_same (λ place. key_at (keys_of (filter stays rows)) (g place)) (key_at (keys_of rows)) (filter b places)
        (all_kept (λ place. key_at (keys_of (filter stays rows)) (g place) ≡ key_at (keys_of rows) place) b (length (keys_of rows)) places
        (λ place small some. kept_key rows ranks are place (omega (arith, small, count)) some) (within (keys_of rows) places index)) in
        subst (IsStrictlySortedBy key_order) (sym same) (sorted_some (key_at (keys_of rows)) b places index.ascend);
  }
    where
      g : ℕ → ℕ
      g place = get_or ranks place 0 - 1

      b : ℕ → Bool
      b place = not (nat_eq (get_or ranks place 0) 0)

pub at_most_one : (b : Bool) → (if b then 1 else 0) ≤ 1
at_most_one true = omega arith
at_most_one false = omega arith

pub slice_within : {X : Type 0} (xs : List X) (n : ℕ) (x : X) → slice_get xs n ≡ Some x → n < length xs
slice_within [] zero x at = absurd cc
slice_within [] (suc n) x at = absurd cc
slice_within (y ∷ xs) zero x at = omega arith
slice_within (y ∷ xs) (suc n) x at = let rest = slice_within xs n x at in omega (arith, rest)
