-- Lists in order: there is one list in order of the same elements.
use Rattle.std.proofs.Common.{◌≡◌, ◌∙◌, ap, sym, refl, ℕ, ◌+◌, ◌<◌, ◌⊎◌, inl, inr, Bool, true, false, cond, if◌then◌else◌, List, [], ◌∷◌, filter, get_or, length, map, take, sum_by, zero, suc, add-one, arith}
use Rattle.std.specs.Bool.{⊤}
use Rattle.std.specs.declared.cmp.Ordering.{Ordering}
use Rattle.std.specs.declared.cmp.Ordering.TheVariants.{Less, Equal, Greater}
use Rattle.std.specs.Ordering.{is_lt, is_gt, ordering_reverse}
use Rattle.std.specs.List.Sorted.{IsPermutation, IsSorted}
use Rattle.std.specs.Cmp.{IsTotalOrder, tied_itself}
use Rattle.std.proofs.lemmas.Cmp.{upto}
use Rattle.std.proofs.lemmas.List.{length-map}
use Rattle.std.proofs.lemmas.List.Sums.{sum_by-cons}
use Rattle.std.proofs.lemmas.List.Sorted.{sum_by-IsPermutation, IsPermutation-map, IsPermutation-refl, IsPermutation-cons, IsPermutation-trans, IsPermutation-middle, length_permutation, sorted_far, ranks_by}
use Rattle.object_names.specs.InOrder.{in_order, inserted}

cases : (b : Bool) → (b ≡ true) ⊎ (b ≡ false)
cases true = inl refl
cases false = inr refl

reverse_gt : (o p : Ordering) → o ≡ ordering_reverse p → is_gt o ≡ is_lt p
reverse_gt o Less e = rw e
reverse_gt o Equal e = rw e
reverse_gt o Greater e = rw e

reverse_lt : (o p : Ordering) → o ≡ ordering_reverse p → is_lt o ≡ is_gt p
reverse_lt o Less e = rw e
reverse_lt o Equal e = rw e
reverse_lt o Greater e = rw e

lt_not_gt : (o : Ordering) → is_lt o ≡ true → is_gt o ≡ false
lt_not_gt Less h = refl
lt_not_gt Equal h = cc
lt_not_gt Greater h = cc

-- neither of two comes before the other
level : (o : Ordering) → is_lt o ≡ false → is_gt o ≡ false → o ≡ Equal
level Less h g = cc
level Equal h g = refl
level Greater h g = cc

map_take : {P X : Type 0} (f : P → X) (n : ℕ) (xs : List P) → map f (take n xs) ≡ take n (map f xs)
map_take f zero xs = refl
map_take f (suc n) [] = refl
map_take f (suc n) (x ∷ xs) = ap (λ rest. f x ∷ rest) (map_take f n xs)

-- ---- what is put in order stays the same

module _ {X : Type 0} (order : X → X → Ordering) where
  -- how many times the second comes before the first: once or not at all
  abbrev pub before : X → X → ℕ
  before a b = if is_gt (order a b) then 1 else 0

  -- none of those behind one comes before it
  abbrev pub IsOrdered : List X → Type 0
  IsOrdered [] = ⊤
  IsOrdered (a ∷ rest) = (sum_by (before a) rest ≡ 0) × IsOrdered rest

  pub sum_inserted : (f : X → ℕ) (x : X) (xs : List X) → sum_by f (inserted order x xs) ≡ f x + sum_by f xs
  sum_inserted f x [] = sum_by-cons f x []
  sum_inserted f x (y ∷ ys) = elim (cases (is_lt (order y x))) [
    | inl first ↦
        let rest = sum_inserted f x ys in
        let new = sum_by-cons f y (inserted order x ys) in
        let old = sum_by-cons f y ys in
        rw first (omega arith)
    | inr last ↦ rw last (sum_by-cons f x (y ∷ ys))
  ]

  pub sum_sorted : (f : X → ℕ) (xs : List X) → sum_by f (in_order order xs) ≡ sum_by f xs
  sum_sorted f [] = refl
  sum_sorted f (x ∷ xs) =
      let rest = sum_sorted f xs in
      sum_inserted f x (in_order order xs) ∙ ap (λ n. f x + n) rest ∙ sym (sum_by-cons f x xs)

  moved_in : (x : X) (xs : List X) → IsPermutation (x ∷ xs) (inserted order x xs)
  moved_in x [] = IsPermutation-refl (x ∷ [])
  moved_in x (y ∷ ys) = elim (cases (is_lt (order y x))) [
    | inl first ↦ rw first (IsPermutation-trans _ _ _ (IsPermutation-middle (x ∷ []) y ys) (IsPermutation-cons y _ _ (moved_in x ys)))
    | inr last ↦ rw last (IsPermutation-refl _)
  ]

  pub same_elements : (xs : List X) → IsPermutation xs (in_order order xs)
  same_elements [] = IsPermutation-refl []
  same_elements (x ∷ xs) = IsPermutation-trans _ _ _ (IsPermutation-cons x _ _ (same_elements xs)) (moved_in x (in_order order xs))

  pub count_sorted : {P : Type 0} (f : P → X) (xs : List P) → length (in_order order (map f xs)) ≡ length xs
  count_sorted f xs = length_permutation (map f xs) (in_order order (map f xs)) (same_elements (map f xs)) ∙ length-map xs f

-- ---- by a total order it is in order

module _ {X : Type 0} (order : X → X → Ordering) (total : IsTotalOrder order) where
  -- what comes before one is what it comes after
  pub gt_lt : (a b : X) → is_gt (order a b) ≡ is_lt (order b a)
  gt_lt a b = reverse_gt (order a b) (order b a) (total.antisymm a b)

  pub not_before : (a b : X) → is_lt (order b a) ≡ false → before order a b ≡ 0
  not_before a b h = rw (gt_lt a b ∙ h)

  pub was_false : (a b : X) → before order a b ≡ 0 → is_gt (order a b) ≡ false
  was_false a b h = elim (cases (is_gt (order a b))) [
    | inl is ↦ absurd (let one : 1 ≡ 0 = rw is at h in omega arith)
    | inr not ↦ not
  ]

  -- what comes before none of some comes before none of those in front of which it stands
  pub further : (a b : X) (others : List X) → before order a b ≡ 0 → sum_by (before order b) others ≡ 0 → sum_by (before order a) others ≡ 0
  further a b [] h rest = refl
  further a b (c ∷ others) h rest =
      let parts = sum_by-cons (before order b) c others in
      let first : before order b c ≡ 0 = omega arith in
      let more : sum_by (before order b) others ≡ 0 = omega arith in
      let far = upto total a b c (was_false a b h) (was_false b c first) in
      let here : before order a c ≡ 0 = rw far in
      let there = further a b others h more in
      sum_by-cons (before order a) c others ∙ omega arith

  -- one that comes before another doesn't come after it
  less_back : (a b : X) → is_lt (order a b) ≡ true → is_lt (order b a) ≡ false
  less_back a b h = reverse_lt (order b a) (order a b) (total.antisymm b a) ∙ lt_not_gt (order a b) h

  pub ordered_inserted : (x : X) (xs : List X) → IsOrdered order xs → IsOrdered order (inserted order x xs)
  ordered_inserted x [] h = (refl, tt)
  ordered_inserted x (y ∷ ys) h =
      let rest = ordered_inserted x ys h.1 in
      let sum = sum_inserted order (before order y) x ys in
      elim (cases (is_lt (order y x))) [
        | inl first ↦
            let none : before order y x ≡ 0 = not_before y x (less_back y x first) in
            let all : sum_by (before order y) (inserted order x ys) ≡ 0 = omega arith in
            rw first (all, rest)
        | inr last ↦
            let none : before order x y ≡ 0 = not_before x y last in
            let far : sum_by (before order x) ys ≡ 0 = further x y ys none h.0 in
            let parts = sum_by-cons (before order x) y ys in
            let all : sum_by (before order x) (y ∷ ys) ≡ 0 = omega arith in
            rw last (all, h)
      ]

  pub sorted_ordered : (xs : List X) → IsOrdered order (in_order order xs)
  sorted_ordered [] = tt
  sorted_ordered (x ∷ xs) = ordered_inserted x (in_order order xs) (sorted_ordered xs)

  none_far : {P : Type 0} (f : P → X) (a : P) (bs : List P) → ((j : ℕ) (d : P) → j < length bs → is_lt (order (f (get_or bs j d)) (f a)) ≡ false) → sum_by (before order (f a)) (map f bs) ≡ 0
  none_far f a [] h = refl
  none_far f a (b ∷ bs) h =
      let here : before order (f a) (f b) ≡ 0 = not_before (f a) (f b) (h 0 b (omega arith)) in
      let there = none_far f a bs (λ j d small. h (suc j) d (omega arith)) in
      sum_by-cons (before order (f a)) (f b) (map f bs) ∙ omega arith

  ordered_from_sorted : {P : Type 0} (f : P → X) (xs : List P) → IsSorted (λ x y. order (f x) (f y)) xs → IsOrdered order (map f xs)
  ordered_from_sorted f [] h = tt
  ordered_from_sorted f (a ∷ rest) h = (
    none_far f a rest (λ j d small. sorted_far _ (ranks_by total f) (a ∷ rest) h 0 (suc j) d (omega arith) (omega arith)),
    ordered_from_sorted f rest (λ k d low high. rw add-one (rw add-one at (h (suc k) d (omega arith) (omega arith)))),
  )

  -- none comes before the one in front of it
  pub stand_in_order : (xs : List X) → IsSorted order (in_order order xs)
  stand_in_order xs = sorted_from_ordered (in_order order xs) (sorted_ordered xs)
    where
      first_two : (a b : X) (rest : List X) → sum_by (before order a) (b ∷ rest) ≡ 0 → is_lt (order b a) ≡ false
      first_two a b rest h =
          let parts = sum_by-cons (before order a) b rest in
          let here : before order a b ≡ 0 = omega arith in
          sym (gt_lt a b) ∙ was_false a b here

      sorted_from_ordered : (ys : List X) → IsOrdered order ys → IsSorted order ys
      sorted_from_ordered [] h k d low high = absurd (omega arith)
      sorted_from_ordered (a ∷ []) h k d low high = absurd (omega arith)
      sorted_from_ordered (a ∷ b ∷ rest) h zero d low high = first_two a b rest h.0
      sorted_from_ordered (a ∷ b ∷ rest) h (suc k) d low high = rw add-one (rw add-one at (sorted_from_ordered (b ∷ rest) h.1 k d (omega arith) (omega arith)))

-- ---- by an order that ties nothing but the same, there is one list

module _ {X : Type 0} (order : X → X → Ordering) (total : IsTotalOrder order) (apart : (a b : X) → order a b ≡ Equal → a ≡ b) where
  same_one : (a b : X) → before order a b ≡ 0 → before order b a ≡ 0 → a ≡ b
  same_one a b h g =
      let not_after : is_lt (order a b) ≡ false = sym (gt_lt order total b a) ∙ was_false order total b a g in
      apart a b (level (order a b) not_after (was_false order total a b h))

  -- two lists in order that have each element as often are one
  pub unique : (ys zs : List X) → IsOrdered order ys → IsOrdered order zs → ((f : X → ℕ) → sum_by f ys ≡ sum_by f zs) → ys ≡ zs
  unique [] [] p q same = refl
  unique [] (z ∷ zs) p q same =
      let one : sum_by (λ x. 1) (z ∷ zs) ≡ 1 + sum_by (λ x. 1) zs = sum_by-cons (λ x. 1) z zs in
      let none : 0 ≡ sum_by (λ x. 1) (z ∷ zs) = same (λ x. 1) in
      absurd (omega arith)
  unique (y ∷ ys) [] p q same =
      let one : sum_by (λ x. 1) (y ∷ ys) ≡ 1 + sum_by (λ x. 1) ys = sum_by-cons (λ x. 1) y ys in
      let none : sum_by (λ x. 1) (y ∷ ys) ≡ 0 = same (λ x. 1) in
      absurd (omega arith)
  unique (y ∷ ys) (z ∷ zs) p q same =
      let after_z : before order z y ≡ 0 = none_before z y ys zs q.0 (same (before order z)) in
      let after_y : before order y z ≡ 0 = none_before y z zs ys p.0 (sym (same (before order y))) in
      let first = same_one y z after_y after_z in
      let rest = unique ys zs p.1 q.1 (λ f. less_first f y z ys zs first (same f)) in
      cc
    where
      itself : (a : X) → before order a a ≡ 0
      itself a = rw (tied_itself total a)

      none_before : (a b : X) (bs as' : List X) → sum_by (before order a) as' ≡ 0 → sum_by (before order a) (b ∷ bs) ≡ sum_by (before order a) (a ∷ as') → before order a b ≡ 0
      none_before a b bs as' h e =
          let left = sum_by-cons (before order a) b bs in
          let right = sum_by-cons (before order a) a as' in
          let self = itself a in
          omega arith

      less_first : (f : X → ℕ) (y z : X) (ys zs : List X) → y ≡ z → sum_by f (y ∷ ys) ≡ sum_by f (z ∷ zs) → sum_by f ys ≡ sum_by f zs
      less_first f y z ys zs is e =
          let left = sum_by-cons f y ys in
          let right = sum_by-cons f z zs in
          let head = ap f is in
          omega arith

  -- what a sort gives is the list in order
  pub sort_gives : {P : Type 0} (f : P → X) (xs ys : List P) → IsPermutation xs ys → IsSorted (λ x y. order (f x) (f y)) ys → map f ys ≡ in_order order (map f xs)
  sort_gives f xs ys moved sorted = unique _ _ (ordered_from_sorted order total f ys sorted) (sorted_ordered order total (map f xs)) (λ g.
      sum_by-IsPermutation g (map f xs) (map f ys) (IsPermutation-map f xs ys moved) ∙ sym (sum_sorted order g (map f xs)))

  -- of what a sort gives, the first so many
  pub sort_taken : {P : Type 0} (f : P → X) (xs ys : List P) (most : ℕ) → IsPermutation xs ys → IsSorted (λ x y. order (f x) (f y)) ys → map f (take most ys) ≡ take most (in_order order (map f xs))
  sort_taken f xs ys most moved sorted = map_take f most ys ∙ ap (take most) (sort_gives f xs ys moved sorted)

-- ---- some of a list in order are those that are some, in order

module _ {X : Type 0} (order : X → X → Ordering) (q : X → Bool) where
  sum_filtered : (f : X → ℕ) (xs : List X) → sum_by f (filter q xs) ≡ sum_by (λ x. cond (q x) (f x) 0) xs
  sum_filtered f [] = refl
  sum_filtered f (x ∷ xs) = by_test (q x) refl (sum_filtered f xs)
    where
      by_test : (b : Bool) → q x ≡ b → sum_by f (filter q xs) ≡ sum_by (λ x. cond (q x) (f x) 0) xs
          → sum_by f (cond b (x ∷ filter q xs) (filter q xs)) ≡ sum_by (λ x. cond (q x) (f x) 0) (x ∷ xs)
      by_test true e rest =
          sum_by-cons f x (filter q xs) ∙ ap (λ n. f x + n) rest
          ∙ ap (λ (b : Bool). cond b (f x) 0 + sum_by (λ x. cond (q x) (f x) 0) xs) (sym e) ∙ sym (sum_by-cons (λ x. cond (q x) (f x) 0) x xs)
      by_test false e rest =
          let none : sum_by (λ x. cond (q x) (f x) 0) xs ≡ 0 + sum_by (λ x. cond (q x) (f x) 0) xs = omega arith in
          rest ∙ none ∙ ap (λ (b : Bool). cond b (f x) 0 + sum_by (λ x. cond (q x) (f x) 0) xs) (sym e) ∙ sym (sum_by-cons (λ x. cond (q x) (f x) 0) x xs)

  none_filtered : (f : X → ℕ) (xs : List X) → sum_by f xs ≡ 0 → sum_by f (filter q xs) ≡ 0
  none_filtered f [] h = refl
  none_filtered f (x ∷ xs) h = by_test (q x) (none_filtered f xs more)
    where
      more : sum_by f xs ≡ 0
      more = let parts = sum_by-cons f x xs in omega arith

      by_test : (b : Bool) → sum_by f (filter q xs) ≡ 0 → sum_by f (cond b (x ∷ filter q xs) (filter q xs)) ≡ 0
      by_test true rest =
          let parts = sum_by-cons f x xs in
          let new = sum_by-cons f x (filter q xs) in
          omega arith
      by_test false rest = rest

  ordered_filtered : (xs : List X) → IsOrdered order xs → IsOrdered order (filter q xs)
  ordered_filtered [] h = tt
  ordered_filtered (x ∷ xs) h = by_test (q x) (ordered_filtered xs h.1)
    where
      by_test : (b : Bool) → IsOrdered order (filter q xs) → IsOrdered order (cond b (x ∷ filter q xs) (filter q xs))
      by_test true rest = (none_filtered (before order x) xs h.0, rest)
      by_test false rest = rest

  pub sorted_filtered : IsTotalOrder order → ((a b : X) → order a b ≡ Equal → a ≡ b) → (xs : List X) → in_order order (filter q xs) ≡ filter q (in_order order xs)
  sorted_filtered total apart xs =
      unique order total apart _ _ (sorted_ordered order total (filter q xs)) (ordered_filtered (in_order order xs) (sorted_ordered order total xs)) (λ f.
      sum_sorted order f (filter q xs) ∙ sum_filtered f xs ∙ sym (sum_sorted order (λ x. cond (q x) (f x) 0) xs) ∙ sym (sum_filtered f (in_order order xs)))
