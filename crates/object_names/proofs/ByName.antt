-- The rows in order of names are those at the places of an index.
use Rattle.std.proofs.Common.{◌≡◌, ◌≢◌, ◌∙◌, ap, sym, refl, subst, ℕ, zero, suc, ◌+◌, ◌<◌, ◌≤◌, ◌⊎◌, inl, inr, Bool, true, false, eqb, if◌then◌else◌, List, [], ◌∷◌, get_or, length, map, slice_get, Option, Some, None, IfSome, option_map, sum_by, arith, Bor, IsPermutation}
use Rattle.std.specs.List.{AllByRecursion}
use Rattle.std.specs.Prelude.{⊤}
use Rattle.std.specs.List.Sorted.{IsStrictlySortedBy}
use Rattle.std.specs.Map.{keys_of}
use Rattle.std.specs.Ordering.{is_lt}
use Rattle.std.specs.declared.cmp.Ordering.{Ordering}
use Rattle.std.specs.declared.cmp.Ordering.TheVariants.{Less}
use Rattle.std.proofs.lemmas.Bool.Decides.{eqb_tells}
use Rattle.std.proofs.lemmas.List.{length-map}
use Rattle.std.proofs.lemmas.List.Sorted.{ranks_by}
use Rattle.std.proofs.lemmas.List.Sums.{sum_by-cons}
use Rattle.mms_types.specs.declared.key.Key.{Key}
use Rattle.mms_types.specs.KeyLaws.{keys_total}
use Rattle.mms_types.specs.Order.{key_order}
use Rattle.object_names.specs.Index.{IsIndexOf, key_at, sum_below}
use Rattle.object_names.specs.InOrder.{in_order, inserted}
use Rattle.object_names.specs.Ranked.{by_name, insert_row, row_order}
use Rattle.object_names.proofs.InOrder.{same_elements, sum_sorted}
use Rattle.object_names.proofs.Places.{all_map, map_same, sum_map, within}

-- ---- they are the same rows

pub same_rows : {T : Type 0} (rows : List (Key × T)) → IsPermutation rows (by_name rows)
same_rows = same_elements row_order

-- ---- places in order of the keys at them

-- the test that puts a key in front of another one
abbrev first : Key → Key → Bool
first a b = is_lt (key_order a b)

ranks : (x y : Key) → first x y ≡ true → first y x ≡ false
ranks = (ranks_by keys_total (λ (k : Key). k)).one_way

chain : (x y z : Key) → first x y ≡ false → first y z ≡ false → first x z ≡ false
chain = (ranks_by keys_total (λ (k : Key). k)).chain

module _ (k : ℕ → Key) where
  -- places in order of their keys
  abbrev place_order : ℕ → ℕ → Ordering
  place_order p q = key_order (k p) (k q)

  abbrev put_place : ℕ → List ℕ → List ℕ
  put_place = inserted place_order

  abbrev places_sorted : List ℕ → List ℕ
  places_sorted = in_order place_order

  -- none comes before one in front of it
  abbrev IsWeak : List ℕ → Type 0
  IsWeak [] = ⊤
  IsWeak (p ∷ ps) = AllByRecursion (λ q. first (k q) (k p) ≡ false) ps × IsWeak ps

  all_put : (P : ℕ → Type 0) (p : ℕ) (qs : List ℕ) → P p → AllByRecursion P qs → AllByRecursion P (put_place p qs)
  all_put P p [] here all = (here, tt)
  all_put P p (q ∷ qs) here all = by (first (k q) (k p)) (all_put P p qs here all.1)
    where
      by : (b : Bool) → AllByRecursion P (put_place p qs) → AllByRecursion P (if b then q ∷ put_place p qs else p ∷ q ∷ qs)
      by true rest = (all.0, rest)
      by false rest = (here, all)

  weak_put : (p : ℕ) (qs : List ℕ) → IsWeak qs → IsWeak (put_place p qs)
  weak_put p [] weak = (tt, tt)
  weak_put p (q ∷ qs) weak = by (first (k q) (k p)) refl (weak_put p qs weak.1)
    where
      by : (b : Bool) → first (k q) (k p) ≡ b → IsWeak (put_place p qs) → IsWeak (if b then q ∷ put_place p qs else p ∷ q ∷ qs)
      by true less rest = (all_put (λ x. first (k x) (k q) ≡ false) p qs (ranks (k q) (k p) less) weak.0, rest)
      by false less rest = ((less, all_map (λ x far. chain (k x) (k q) (k p) far less) qs weak.0), weak)

  weak_sorted : (ps : List ℕ) → IsWeak (places_sorted ps)
  weak_sorted [] = tt
  weak_sorted (p ∷ ps) = weak_put p (places_sorted ps) (weak_sorted ps)

  -- ---- places that ascend are those that are sorted

  abbrev is : ℕ → ℕ → ℕ
  is q x = if eqb x q then 1 else 0

  is_self : (q : ℕ) → is q q ≡ 1
  is_self q = by (eqb_tells q q)
    where
      by : ((eqb q q ≡ true) × (q ≡ q)) ⊎ ((eqb q q ≡ false) × (q ≢ q)) → is q q ≡ 1
      by (inl e) = ap (λ b. if b then 1 else 0) e.0
      by (inr e) = absurd (e.1 refl)

  -- a place among some has what each has
  found : (P : ℕ → Type 0) (q : ℕ) (ps : List ℕ) → AllByRecursion P ps → 1 ≤ sum_by (is q) ps → P q
  found P q [] all some = absurd (omega (arith, some))
  found P q (p ∷ ps) all some = by (eqb_tells p q) (λ rest. found P q ps all.1 rest)
    where
      by : ((eqb p q ≡ true) × (p ≡ q)) ⊎ ((eqb p q ≡ false) × (p ≢ q)) → (1 ≤ sum_by (is q) ps → P q) → P q
      by (inl e) later = subst P e.1 all.0
      by (inr e) later =
          let none : is q p ≡ 0 = ap (λ b. if b then 1 else 0) e.0 in
          let parts = sum_by-cons (is q) p ps in
          later (omega (arith, some, none, parts))

  all_keys : (P : Key → Type 0) (ps : List ℕ) → AllByRecursion P (map k ps) → AllByRecursion (λ p. P (k p)) ps
  all_keys P [] all = tt
  all_keys P (p ∷ ps) all = (all.0, all_keys P ps all.1)

  ascending_is : (ps qs : List ℕ) → IsStrictlySortedBy key_order (map k ps) → IsWeak qs → ((f : ℕ → ℕ) → sum_by f ps ≡ sum_by f qs) → ps ≡ qs
  unfolding IsStrictlySortedBy
  ascending_is [] [] ascend weak same = refl
  ascending_is [] (q ∷ qs) ascend weak same =
      let one = sum_by-cons (λ x. 1) q qs in
      let none : 0 ≡ sum_by (λ x. 1) (q ∷ qs) = same (λ x. 1) in
      absurd (omega (arith, one, none))
  ascending_is (p ∷ ps) [] ascend weak same =
      let one = sum_by-cons (λ x. 1) p ps in
      let none : sum_by (λ x. 1) (p ∷ ps) ≡ 0 = same (λ x. 1) in
      absurd (omega (arith, one, none))
  ascending_is (p ∷ ps) (q ∷ qs) ascend weak same =
      ap (λ x. x ∷ ps) one ∙ ap (λ xs. q ∷ xs) (ascending_is ps qs ascend.1 weak.1 rest)
    where
      by : ((eqb p q ≡ true) × (p ≡ q)) ⊎ ((eqb p q ≡ false) × (p ≢ q)) → p ≡ q
      by (inl e) = e.1
      by (inr e) =
          let q_is : is q p ≡ 0 = ap (λ b. if b then 1 else 0) e.0 in
          let q_in : 1 ≤ sum_by (is q) ps =
          (let all = same (is q) in let left = sum_by-cons (is q) p ps in let right = sum_by-cons (is q) q qs in let self = is_self q in omega (arith, all, left, right, self, q_is)) in
          let p_is : is p q ≡ 0 = other (eqb_tells q p) in
          let p_in : 1 ≤ sum_by (is p) qs =
          (let all = same (is p) in let left = sum_by-cons (is p) p ps in let right = sum_by-cons (is p) q qs in let self = is_self p in omega (arith, all, left, right, self, p_is)) in
          let less : key_order (k p) (k q) ≡ Less = found (λ x. key_order (k p) (k x) ≡ Less) q ps (all_keys (λ x. key_order (k p) x ≡ Less) ps ascend.0) q_in in
          let not_less : first (k p) (k q) ≡ false = found (λ x. first (k x) (k q) ≡ false) p qs weak.0 p_in in
          absurd (let wrong = sym (ap is_lt less) ∙ not_less in cc wrong)
        where
          other : ((eqb q p ≡ true) × (q ≡ p)) ⊎ ((eqb q p ≡ false) × (q ≢ p)) → is p q ≡ 0
          other (inl f) = absurd (e.1 (sym f.1))
          other (inr f) = ap (λ b. if b then 1 else 0) f.0

      one : p ≡ q
      one = by (eqb_tells p q)

      rest : (f : ℕ → ℕ) → sum_by f ps ≡ sum_by f qs
      rest f =
          let all = same f in
          let left = sum_by-cons f p ps in
          let right = sum_by-cons f q qs in
          let equal = ap f one in
          omega (arith, all, left, right, equal)

-- ---- the rows at places

module _ {T : Type 0} (f : ℕ → Key × T) where
  abbrev key : ℕ → Key
  key p = (f p).0

  put_mapped : (p : ℕ) (qs : List ℕ) → insert_row (f p) (map f qs) ≡ map f (put_place key p qs)
  put_mapped p [] = refl
  put_mapped p (q ∷ qs) = by (first (key q) (key p)) (put_mapped p qs)
    where
      by : (b : Bool) → insert_row (f p) (map f qs) ≡ map f (put_place key p qs) → (if b then f q ∷ insert_row (f p) (map f qs) else f p ∷ f q ∷ map f qs) ≡ map f (if b then q ∷ put_place key p qs else p ∷ q ∷ qs)
      by true rest = ap (λ l. f q ∷ l) rest
      by false rest = refl

  mapped : (ps : List ℕ) → by_name (map f ps) ≡ map f (places_sorted key ps)
  mapped [] = refl
  mapped (p ∷ ps) = ap (insert_row (f p)) (mapped ps) ∙ put_mapped p (places_sorted key ps)

-- the numbers below one
abbrev below : ℕ → List ℕ
below zero = []
below (suc n) = 0 ∷ map suc (below n)

sum_of_below : (f : ℕ → ℕ) (n : ℕ) → sum_by f (below n) ≡ sum_below f n
sum_of_below f zero = refl
sum_of_below f (suc n) = sum_by-cons f 0 (map suc (below n)) ∙ ap (λ m. f 0 + m) (sum_map f suc (below n) ∙ sum_of_below (λ i. f (suc i)) n)

map_twice : {X Y Z : Type 0} (f : Y → Z) (g : X → Y) (xs : List X) → map f (map g xs) ≡ map (λ x. f (g x)) xs
map_twice f g [] = refl
map_twice f g (x ∷ xs) = ap (λ ys. f (g x) ∷ ys) (map_twice f g xs)

rows_at_all : {X : Type 0} (xs : List X) (d : X) → map (λ p. get_or xs p d) (below (length xs)) ≡ xs
rows_at_all [] d = refl
rows_at_all (x ∷ xs) d = ap (λ l. x ∷ l) (map_twice (λ p. get_or (x ∷ xs) p d) suc (below (length xs)) ∙ rows_at_all xs d)

key_is : {T : Type 0} (rows : List (Key × T)) (d : Key × T) (p : ℕ) → p < length (keys_of rows) → key_at (keys_of rows) p ≡ (get_or rows p d).0
key_is [] d p small = absurd (omega (arith, small))
key_is (row ∷ rows) d zero small = refl
key_is (row ∷ rows) d (suc p) small = key_is rows d p (omega (arith, small))

module _ {T : Type 0} (rows : List (Key × T)) (places : List ℕ) (index : IsIndexOf (keys_of rows) places) where
  -- the keys at the places are those of the rows there
  keys_there : (d : Key × T) → map (key_at (keys_of rows)) places ≡ map (λ p. (get_or rows p d).0) places
  keys_there d = map_same (key_at (keys_of rows)) (λ p. (get_or rows p d).0) places (all_map (λ p small. key_is rows d p small) places (within (keys_of rows) places index))

  pub rows_ranked : (d : Key × T) → by_name rows ≡ map (λ p. get_or rows p d) places
  rows_ranked d =
      ap by_name (sym (rows_at_all rows d)) ∙ mapped f (below (length rows))
      ∙ ap (map f) (sym (ascending_is k places (places_sorted k (below (length rows))) (subst (IsStrictlySortedBy key_order) (keys_there d) index.ascend) (weak_sorted k (below (length rows))) sums))
    where
      f : ℕ → Key × T
      f p = get_or rows p d

      k : ℕ → Key
      k p = (f p).0

      sums : (g : ℕ → ℕ) → sum_by g places ≡ sum_by g (places_sorted k (below (length rows)))
      sums g =
          index.each g ∙ ap (sum_below g) (length-map rows (λ (row : Key × T). row.0)) ∙ sym (sum_of_below g (length rows))
          ∙ sym (sum_sorted (place_order k) g (below (length rows)))

  -- there is one place for each row
  pub as_many : length places ≡ length rows
  as_many = sym (ones places) ∙ index.each (λ p. 1) ∙ count (length (keys_of rows)) ∙ length-map rows (λ (row : Key × T). row.0)
    where
      ones : (ps : List ℕ) → sum_by (λ p. 1) ps ≡ length ps
      ones [] = refl
      ones (p ∷ ps) =
          let parts = sum_by-cons (λ (x : ℕ). 1) p ps in
          let rest = ones ps in
          omega (arith, parts, rest)

      count : (n : ℕ) → sum_below (λ p. 1) n ≡ n
      count zero = refl
      count (suc n) = let rest = count n in omega (arith, rest)

  at_rank : (f : ℕ → Key × T) (ps : List ℕ) (rank d : ℕ) → rank < length ps → slice_get (map f ps) rank ≡ Some (f (get_or ps rank d))
  at_rank f [] rank d small = absurd (omega (arith, small))
  at_rank f (p ∷ ps) zero d small = refl
  at_rank f (p ∷ ps) (suc rank) d small = at_rank f ps rank d (omega (arith, small))

  row_at : (rows : List (Key × T)) (p : ℕ) (row : Key × T) → slice_get rows p ≡ Some row → get_or rows p row ≡ row
  row_at [] zero row at = refl
  row_at [] (suc p) row at = refl
  row_at (r ∷ rows) zero row at = let same : r ≡ row = cc in same
  row_at (r ∷ rows) (suc p) row at = row_at rows p row at

  -- the row at a place of the index has its rank
  pub row_ranked : (rank p d : ℕ) (row : Key × T) → rank < length places → p ≡ get_or places rank d → slice_get rows p ≡ Some row → slice_get (by_name rows) rank ≡ Some row
  row_ranked rank p d row small is at =
      ap (λ rs. slice_get rs rank) (rows_ranked row) ∙ at_rank (λ p. get_or rows p row) places rank d small
      ∙ ap (λ p. Some (get_or rows p row)) (sym is) ∙ ap (λ r. Some r) (row_at rows p row at)

  pub told_ranked : (rank p d : ℕ) (told : Option (Bor Key × Bor T)) → rank < length places → p ≡ get_or places rank d → option_map (λ row. (row.0.now, row.1.now)) told ≡ slice_get rows p
      → IfSome told (λ row. slice_get (by_name rows) rank ≡ Some (row.0.now, row.1.now))
  told_ranked rank p d None small is at = tt
  told_ranked rank p d (Some row) small is at = row_ranked rank p d (row.0.now, row.1.now) small is (sym at)

  -- the names ascend
  pub names_ascend : IsStrictlySortedBy key_order (keys_of (by_name rows))
  unfolding IsStrictlySortedBy
  names_ascend = by rows refl
    where
      by : (rs : List (Key × T)) → rows ≡ rs → IsStrictlySortedBy key_order (keys_of (by_name rows))
      by [] none = subst (λ rs. IsStrictlySortedBy key_order (keys_of (by_name rs))) (sym none) tt
      by (d ∷ rs) some =
          let keys : keys_of (by_name rows) ≡ map (λ p. (get_or rows p d).0) places =
          ap keys_of (rows_ranked d) ∙ map_twice (λ (r : Key × T). r.0) (λ p. get_or rows p d) places in
          subst (IsStrictlySortedBy key_order) (sym (keys ∙ sym (keys_there d))) index.ascend
