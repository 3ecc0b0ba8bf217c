-- Places that stand once each, and what is summed over them.
use Rattle.std.proofs.Common.{◌≡◌, ◌∙◌, ap, sym, refl, subst, ℕ, zero, suc, ◌+◌, ◌-◌, ◌<◌, Bool, true, false, cond, not, if◌then◌else◌, nat_eq, List, [], ◌∷◌, ◌++◌, drop, filter, length, length-append, map, slice_get, take, Some, sum_by, arith}
use Rattle.std.specs.List.{AllByRecursion}
use Rattle.std.specs.List.Sorted.{IsStrictlySortedBy}
use Rattle.std.specs.declared.cmp.Ordering.{Ordering}
use Rattle.std.specs.declared.cmp.Ordering.TheVariants.{Less}
use Rattle.std.proofs.lemmas.List.Sums.{sum_by-cons, sum_by-insert}
use Rattle.mms_types.specs.declared.key.Key.{Key}
use Rattle.mms_types.specs.Order.{key_order}
use Rattle.object_names.specs.Index.{IsIndexOf, key_at, sum_below}

-- ---- sums

below_none : (f : ℕ → ℕ) (n : ℕ) → ((i : ℕ) → i < n → f i ≡ 0) → sum_below f n ≡ 0
below_none f zero none = refl
below_none f (suc n) none =
    let first : f 0 ≡ 0 = none 0 (omega arith) in
    let rest : sum_below (λ i. f (suc i)) n ≡ 0 = below_none (λ i. f (suc i)) n (λ i small. none (suc i) (omega (arith, small))) in
    omega (arith, first, rest)

pub below_same : (f g : ℕ → ℕ) (n : ℕ) → ((i : ℕ) → f i ≡ g i) → sum_below f n ≡ sum_below g n
below_same f g zero same = refl
below_same f g (suc n) same =
    let first : f 0 ≡ g 0 = same 0 in
    let rest : sum_below (λ i. f (suc i)) n ≡ sum_below (λ i. g (suc i)) n = below_same (λ i. f (suc i)) (λ i. g (suc i)) n (λ i. same (suc i)) in
    omega (arith, first, rest)

below_more : (f : ℕ → ℕ) (n : ℕ) → sum_below f (suc n) ≡ sum_below f n + f n
below_more f zero = omega arith
below_more f (suc n) =
    let rest : sum_below (λ i. f (suc i)) (suc n) ≡ sum_below (λ i. f (suc i)) n + f (suc n) = below_more (λ i. f (suc i)) n in
    omega (arith, rest)

pub sum_same : {X : Type 0} (f g : X → ℕ) (xs : List X) → AllByRecursion (λ x. f x ≡ g x) xs → sum_by f xs ≡ sum_by g xs
sum_same f g [] same = refl
sum_same f g (x ∷ xs) same =
    let a = sum_by-cons f x xs in
    let b = sum_by-cons g x xs in
    let first : f x ≡ g x = same.0 in
    let rest = sum_same f g xs same.1 in
    omega (arith, a, b, first, rest)

pub sum_none : {X : Type 0} (f : X → ℕ) (xs : List X) → AllByRecursion (λ x. f x ≡ 0) xs → sum_by f xs ≡ 0
sum_none f [] none = refl
sum_none f (x ∷ xs) none =
    let a = sum_by-cons f x xs in
    let first : f x ≡ 0 = none.0 in
    let rest = sum_none f xs none.1 in
    omega (arith, a, first, rest)

pub none_from_sum : {X : Type 0} (f : X → ℕ) (xs : List X) → sum_by f xs ≡ 0 → AllByRecursion (λ x. f x ≡ 0) xs
none_from_sum f [] none = tt
none_from_sum f (x ∷ xs) none =
    let a = sum_by-cons f x xs in
    (omega (arith, a, none), none_from_sum f xs (omega (arith, a, none)))

pub sum_map : {X Y : Type 0} (f : Y → ℕ) (g : X → Y) (xs : List X) → sum_by f (map g xs) ≡ sum_by (λ x. f (g x)) xs
sum_map f g [] = refl
sum_map f g (x ∷ xs) =
    let a = sum_by-cons f (g x) (map g xs) in
    let b = sum_by-cons (λ x. f (g x)) x xs in
    let rest = sum_map f g xs in
    omega (arith, a, b, rest)

pub sum_filter : {X : Type 0} (f : X → ℕ) (p : X → Bool) (xs : List X) → sum_by f (filter p xs) ≡ sum_by (λ x. if p x then f x else 0) xs
sum_filter f p [] = refl
sum_filter {X} f p (x ∷ xs) = by_first (p x) (sum_filter f p xs) ∙ sym (sum_by-cons (λ x. if p x then f x else 0) x xs)
  where
    by_first : (b : Bool) → sum_by f (filter p xs) ≡ sum_by (λ x. if p x then f x else 0) xs
        → sum_by f (cond b (x ∷ filter p xs) (filter p xs)) ≡ (if b then f x else 0) + sum_by (λ x. if p x then f x else 0) xs
    by_first true rest = let a = sum_by-cons f x (filter p xs) in omega (arith, a, rest)
    by_first false rest = omega (arith, rest)

pub all_map : {X : Type 0} {P Q : X → Type 0} → ((x : X) → P x → Q x) → (xs : List X) → AllByRecursion P xs → AllByRecursion Q xs
all_map h [] all = tt
all_map h (x ∷ xs) all = (h x all.0, all_map h xs all.1)

pub all_both : {X : Type 0} {P Q R : X → Type 0} → ((x : X) → P x → Q x → R x) → (xs : List X) → AllByRecursion P xs → AllByRecursion Q xs → AllByRecursion R xs
all_both h [] p q = tt
all_both h (x ∷ xs) p q = (h x p.0 q.0, all_both h xs p.1 q.1)

pub all_taken : {X : Type 0} (P : X → Type 0) (n : ℕ) (xs : List X) → AllByRecursion P xs → AllByRecursion P (take n xs)
all_taken P zero xs all = tt
all_taken P (suc n) [] all = tt
all_taken P (suc n) (x ∷ xs) all = (all.0, all_taken P n xs all.1)

-- ---- an index

-- every place is one of a row
pub within : (keys : List Key) (places : List ℕ) → IsIndexOf keys places → AllByRecursion (λ place. place < length keys) places
within keys places index =
    all_map (λ place none. omega (arith, none)) places (none_from_sum (λ place. suc place - length keys) places
    (index.each (λ place. suc place - length keys) ∙ below_none (λ place. suc place - length keys) (length keys) (λ i small. omega (arith, small))))

keys_sum : (g : Key → ℕ) (keys : List Key) → sum_below (λ i. g (key_at keys i)) (length keys) ≡ sum_by g keys
keys_sum g [] = refl
keys_sum g (k ∷ keys) =
    let rest = keys_sum g keys in
    let a = sum_by-cons g k keys in
    omega (arith, rest, a)

-- what is summed over the keys in their order is what is summed over them as they stand
pub index_sum : (keys : List Key) (places : List ℕ) → IsIndexOf keys places → (g : Key → ℕ) → sum_by g (map (key_at keys) places) ≡ sum_by g keys
index_sum keys places index g = sum_map g (key_at keys) places ∙ index.each (λ i. g (key_at keys i)) ∙ keys_sum g keys

pub no_rows : IsIndexOf [] []
unfolding IsStrictlySortedBy
no_rows = record { each = λ f. refl; ascend = tt }

-- ---- one row more

at_old : (keys rest : List Key) (place : ℕ) → place < length keys → key_at (keys ++ rest) place ≡ key_at keys place
at_old [] rest place small = absurd (omega (arith, small))
at_old (k ∷ keys) rest zero small = refl
at_old (k ∷ keys) rest (suc place) small = at_old keys rest place (omega (arith, small))

at_new : (keys : List Key) (key : Key) → key_at (keys ++ key ∷ []) (length keys) ≡ key
at_new [] key = refl
at_new (k ∷ keys) key = at_new keys key

pub map_same : {X Y : Type 0} (f g : X → Y) (xs : List X) → AllByRecursion (λ x. f x ≡ g x) xs → map f xs ≡ map g xs
map_same f g [] same = refl
map_same f g (x ∷ xs) same = ap (λ y. y ∷ map f xs) same.0 ∙ ap (λ ys. g x ∷ ys) (map_same f g xs same.1)

map_put : {X Y : Type 0} (f : X → Y) (xs : List X) (x : X) (n : ℕ) → map f (take n xs ++ x ∷ drop n xs) ≡ take n (map f xs) ++ f x ∷ drop n (map f xs)
map_put f xs x zero = refl
map_put f [] x (suc n) = refl
map_put f (y ∷ xs) x (suc n) = ap (λ ys. f y ∷ ys) (map_put f xs x n)

all_put : {X : Type 0} (P : X → Type 0) (xs : List X) (x : X) (n : ℕ) → AllByRecursion P xs → P x → AllByRecursion P (take n xs ++ x ∷ drop n xs)
all_put P xs x zero all here = (here, all)
all_put P [] x (suc n) all here = (here, tt)
all_put P (y ∷ xs) x (suc n) all here = (all.0, all_put P xs x n all.1 here)

sorted_put : {K : Type 0} (c : K → K → Ordering) (ks : List K) (k : K) (n : ℕ) → IsStrictlySortedBy c ks → AllByRecursion (λ x. c x k ≡ Less) (take n ks) → AllByRecursion (λ x. c k x ≡ Less) (drop n ks)
    → IsStrictlySortedBy c (take n ks ++ k ∷ drop n ks)
unfolding IsStrictlySortedBy
sorted_put c ks k zero sorted front rest = (rest, sorted)
sorted_put c [] k (suc n) sorted front rest = (tt, tt)
sorted_put c (x ∷ ks) k (suc n) sorted front rest = (all_put (λ y. c x y ≡ Less) ks k n sorted.0 front.0, sorted_put c ks k n sorted.1 front.1 rest)

-- the place of a new row is put among the others where its key belongs
pub index_put : (keys : List Key) (key : Key) (places : List ℕ) (n : ℕ) → IsIndexOf keys places
    → AllByRecursion (λ k. key_order k key ≡ Less) (take n (map (key_at keys) places)) → AllByRecursion (λ k. key_order key k ≡ Less) (drop n (map (key_at keys) places))
    → IsIndexOf (keys ++ key ∷ []) (take n places ++ length keys ∷ drop n places)
index_put keys key places n index front rest = record {
  each = λ f.
      let one : sum_by f (take n places ++ length keys ∷ drop n places) ≡ sum_by f places + f (length keys) = sum_by-insert f places n (length keys) in
      let long : length (keys ++ key ∷ []) ≡ suc (length keys) = length-append keys (key ∷ []) ∙ omega arith in
      one ∙ ap (λ s. s + f (length keys)) (index.each f) ∙ sym (below_more f (length keys)) ∙ ap (sum_below f) (sym long);
  ascend =
      let same : map (key_at (keys ++ key ∷ [])) places ≡ map (key_at keys) places =
      map_same (key_at (keys ++ key ∷ [])) (key_at keys) places (all_map (λ place small. at_old keys (key ∷ []) place small) places (within keys places index)) in
      let put : map (key_at (keys ++ key ∷ [])) (take n places ++ length keys ∷ drop n places) ≡ take n (map (key_at keys) places) ++ key ∷ drop n (map (key_at keys) places) =
      map_put (key_at (keys ++ key ∷ [])) places (length keys) n
      ∙ ap (λ (l : List Key). take n l ++ key_at (keys ++ key ∷ []) (length keys) ∷ drop n l) same
      ∙ ap (λ (k : Key). take n (map (key_at keys) places) ++ k ∷ drop n (map (key_at keys) places)) (at_new keys key) in
      subst (IsStrictlySortedBy key_order) (sym put) (sorted_put key_order (map (key_at keys) places) key n index.ascend front rest);
}

-- ---- rows that go

not_zero : (a : ℕ) → nat_eq (suc a) 0 ≡ false
not_zero a = grind arith

-- the ranks of the rows that stay, from a number on
abbrev AreFrom : {X : Type 0} → (X → Bool) → ℕ → List X → (ℕ → ℕ) → Type 0
AreFrom {X} stays a rows rank = (place : ℕ) (row : X) → slice_get rows place ≡ Some row
    → rank place ≡ (if stays row then a + length (filter stays (take (suc place) rows)) else 0)

-- the sum over the places that stay, as they are then numbered
pub left_sum : {X : Type 0} (stays : X → Bool) (f : ℕ → ℕ) (a : ℕ) (rows : List X) (rank : ℕ → ℕ) → AreFrom stays a rows rank
    → sum_below (λ i. if not (nat_eq (rank i) 0) then f (rank i - 1) else 0) (length rows) ≡ sum_below (λ i. f (a + i)) (length (filter stays rows))
left_sum stays f a [] rank ranks = refl
left_sum {X} stays f a (row ∷ rows) rank ranks = by_first (stays row) refl (λ b r h. left_sum stays f b rows r h)
  where
    term : (ℕ → ℕ) → ℕ → ℕ
    term r i = if not (nat_eq (r i) 0) then f (r i - 1) else 0

    one_term : (a : ℕ) → (if not (nat_eq (suc a) 0) then f (suc a - 1) else 0) ≡ f (a + 0)
    one_term a =
        let some : nat_eq (suc a) 0 ≡ false = not_zero a in
        let one : suc a - 1 ≡ a + 0 = omega arith in
        ap (λ b. if not b then f (suc a - 1) else 0) some ∙ ap f one

    long : (b : Bool) (place : ℕ) → stays row ≡ b → length (filter stays (take (suc (suc place)) (row ∷ rows))) ≡ (if b then 1 else 0) + length (filter stays (take (suc place) rows))
    long true place e = ap (λ (b : Bool). length (cond b (row ∷ filter stays (take (suc place) rows)) (filter stays (take (suc place) rows)))) e ∙ omega arith
    long false place e = ap (λ (b : Bool). length (cond b (row ∷ filter stays (take (suc place) rows)) (filter stays (take (suc place) rows)))) e ∙ omega arith

    later : (b : Bool) → stays row ≡ b → AreFrom stays (a + (if b then 1 else 0)) rows (λ i. rank (suc i))
    later b e place other at = ranks (suc place) other at ∙ ap (λ n. if stays other then n else 0) (ap (λ n. a + n) (long b place e) ∙ omega arith)

    by_first : (b : Bool) → stays row ≡ b
        → ((b : ℕ) (r : ℕ → ℕ) → AreFrom stays b rows r → sum_below (term r) (length rows) ≡ sum_below (λ i. f (b + i)) (length (filter stays rows)))
        → term rank 0 + sum_below (term (λ i. rank (suc i))) (length rows) ≡ sum_below (λ i. f (a + i)) (length (filter stays (row ∷ rows)))
    by_first true e rec =
        let here : rank 0 ≡ suc a = ranks 0 row refl ∙ ap (λ (b : Bool). if b then a + length (filter stays (take 1 (row ∷ rows))) else 0) e
        ∙ ap (λ (b : Bool). a + length (cond b (row ∷ []) [])) e ∙ omega arith in
        let first : term rank 0 ≡ f (a + 0) = ap (λ r. if not (nat_eq r 0) then f (r - 1) else 0) here ∙ one_term a in
        let rest : sum_below (term (λ i. rank (suc i))) (length rows) ≡ sum_below (λ i. f (a + suc i)) (length (filter stays rows)) =
        rec (a + 1) (λ i. rank (suc i)) (later true e) ∙ below_same (λ i. f (a + 1 + i)) (λ i. f (a + suc i)) (length (filter stays rows)) (λ i. let same : a + 1 + i ≡ a + suc i = omega arith in ap f same) in
        let all : sum_below (λ i. f (a + i)) (length (filter stays (row ∷ rows))) ≡ f (a + 0) + sum_below (λ i. f (a + suc i)) (length (filter stays rows)) =
        ap (λ (b : Bool). sum_below (λ i. f (a + i)) (length (cond b (row ∷ filter stays rows) (filter stays rows)))) e in
        omega (arith, first, rest, all)
    by_first false e rec =
        let here : rank 0 ≡ 0 = ranks 0 row refl ∙ ap (λ (b : Bool). if b then a + length (filter stays (take 1 (row ∷ rows))) else 0) e in
        let first : term rank 0 ≡ 0 = ap (λ r. if not (nat_eq r 0) then f (r - 1) else 0) here in
        let rest : sum_below (term (λ i. rank (suc i))) (length rows) ≡ sum_below (λ i. f (a + i)) (length (filter stays rows)) =
        rec (a + 0) (λ i. rank (suc i)) (later false e) ∙ below_same (λ i. f (a + 0 + i)) (λ i. f (a + i)) (length (filter stays rows)) (λ i. let same : a + 0 + i ≡ a + i = omega arith in ap f same) in
        let all : sum_below (λ i. f (a + i)) (length (filter stays (row ∷ rows))) ≡ sum_below (λ i. f (a + i)) (length (filter stays rows)) =
        ap (λ (b : Bool). sum_below (λ i. f (a + i)) (length (cond b (row ∷ filter stays rows) (filter stays rows)))) e in
        omega (arith, first, rest, all)
