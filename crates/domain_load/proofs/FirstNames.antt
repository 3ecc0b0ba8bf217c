-- Names in order of octets, of which only the first so many are kept.
use Rattle.std.proofs.Common.{◌≡◌, ◌∙◌, ℕ, zero, suc, ◌+◌, ◌<◌, ◌≤◌, Bool, true, false, if◌then◌else◌, List, [], ◌∷◌, ◌++◌, ap, arith, cond, drop, filter, length, map, Option, Some, refl, slice_get, sym, take}
use Rattle.std.proofs.lemmas.List.{drop-map, map-append, take-map, take-take, take_all}
use Rattle.std.specs.Map.{keys_of}
use Rattle.std.specs.Ordering.{is_lt}
use Rattle.mms_types.specs.Order.{name_order}
use Rattle.domain_load.specs.Kept.{comes_before}
use Rattle.object_names.specs.Listing.{comes_after, insert_name, sorted_names}

by_first : (m : ℕ) (x y : List ℕ) (ys : List (List ℕ)) (b : Bool) → take m (insert_name x (take m ys)) ≡ take m (insert_name x ys)
    → take (suc m) (if b then y ∷ insert_name x (take m ys) else x ∷ y ∷ take m ys) ≡ take (suc m) (if b then y ∷ insert_name x ys else x ∷ y ∷ ys)
by_first m x y ys true e = ap (λ zs. y ∷ zs) e
by_first m x y ys false e = ap (λ zs. x ∷ zs) (take-take m (suc m) (y ∷ ys) (omega arith))

-- a name that is put among the first so many of names, of which so many stay, is put among all of them
pub put_first : (m : ℕ) (x : List ℕ) (xs : List (List ℕ)) → take m (insert_name x (take m xs)) ≡ take m (insert_name x xs)
put_first zero x xs = refl
put_first (suc m) x [] = refl
put_first (suc m) x (y ∷ ys) = by_first m x y ys (is_lt (name_order y x)) (put_first m x ys)

pub length-insert_name : (x : List ℕ) (xs : List (List ℕ)) → length (insert_name x xs) ≡ suc (length xs)
length-insert_name x [] = refl
length-insert_name x (y ∷ ys) = by_test (is_lt (name_order y x)) (length-insert_name x ys)
  where
    by_test : (b : Bool) → length (insert_name x ys) ≡ suc (length ys) → length (if b then y ∷ insert_name x ys else x ∷ y ∷ ys) ≡ suc (suc (length ys))
    by_test true e = ap suc e
    by_test false e = refl

-- a name comes behind one that comes before it
pub behind : (x : List ℕ) (ys : List (List ℕ)) (i : ℕ) → comes_before x (slice_get ys i) ≡ true
    → take i ys ++ insert_name x (drop i ys) ≡ take (suc i) ys ++ insert_name x (drop (suc i) ys)
behind x [] i e = absurd cc
behind x (y ∷ ys) zero e = ap (λ (b : Bool). if b then y ∷ insert_name x ys else x ∷ y ∷ ys) e ∙ ap (λ zs. y ∷ insert_name x zs) (sym (drop_zero ys))
  where
    drop_zero : (ys : List (List ℕ)) → drop 0 ys ≡ ys
    drop_zero [] = refl
    drop_zero (y ∷ ys) = refl
behind x (y ∷ ys) (suc i) e = ap (λ zs. y ∷ zs) (behind x ys i e)

pub behind_next : (x : List ℕ) (ys : List (List ℕ)) (i : ℕ) → comes_before x (slice_get ys i) ≡ true
    → take i ys ++ insert_name x (drop i ys) ≡ take (i + 1) ys ++ insert_name x (drop (i + 1) ys)
behind_next x ys i e = let next : suc i ≡ i + 1 = omega arith in behind x ys i e ∙ ap (λ n. take n ys ++ insert_name x (drop n ys)) next

pub is_within : (x : List ℕ) (ys : List (List ℕ)) (i : ℕ) → comes_before x (slice_get ys i) ≡ true → i < length ys
is_within x [] i e = absurd cc
is_within x (y ∷ ys) zero e = omega arith
is_within x (y ∷ ys) (suc i) e = let h = is_within x ys i e in omega (arith, h)

-- and before the first that doesn't
pub before_others : (x : List ℕ) (ys : List (List ℕ)) (i : ℕ) → comes_before x (slice_get ys i) ≡ false → insert_name x (drop i ys) ≡ x ∷ drop i ys
before_others x [] zero e = refl
before_others x [] (suc i) e = refl
before_others x (y ∷ ys) zero e = ap (λ (b : Bool). if b then y ∷ insert_name x ys else x ∷ y ∷ ys) e
before_others x (y ∷ ys) (suc i) e = before_others x ys i e

-- an item that is put at a place, by what is told of each
pub map_put : {A B : Type 0} (f : A → B) (xs : List A) (i : ℕ) (x : A) → map f (take i xs ++ x ∷ drop i xs) ≡ take i (map f xs) ++ f x ∷ drop i (map f xs)
map_put f xs i x =
    map-append f (take i xs) (x ∷ drop i xs)
    ∙ ap (λ ys. ys ++ f x ∷ map f (drop i xs)) (sym (take-map f i xs))
    ∙ ap (λ ys. take i (map f xs) ++ f x ∷ ys) (sym (drop-map f i xs))

-- ---- names of rows

length-sorted_names : (xs : List (List ℕ)) → length (sorted_names xs) ≡ length xs
length-sorted_names [] = refl
length-sorted_names (x ∷ xs) = length-insert_name x (sorted_names xs) ∙ ap suc (length-sorted_names xs)

-- one more name among all that are behind it
pub more_sorted : (x : List ℕ) (xs sorted new : List (List ℕ)) (most : ℕ) → sorted ≡ sorted_names xs → new ≡ take most (insert_name x sorted) → suc (length xs) ≤ most
    → new ≡ sorted_names (x ∷ xs)
more_sorted x xs sorted new most so is enough =
    let l = length-insert_name x sorted in
    let k = ap length so ∙ length-sorted_names xs in
    is ∙ take_all most (insert_name x sorted) (omega (arith, l, k, enough)) ∙ ap (insert_name x) so

-- the names of rows that come after that one, in order of octets
abbrev names_of : {T : Type 0} → Option (List ℕ) → List (List ℕ × T) → List (List ℕ)
names_of after rows = sorted_names (filter (comes_after after) (keys_of rows))

-- the names of rows, of which the first so many are there and all are counted
pub record AreFirst {T : Type 0} (most : ℕ) (after : Option (List ℕ)) (rows : List (List ℕ × T)) (names : List (List ℕ)) (number : ℕ) : Type 0 where
  pub first : names ≡ take most (names_of after rows)
  pub count : number ≡ length (names_of after rows)
  pub few : number ≤ length rows

pub one_more : {T : Type 0} (most : ℕ) (after : Option (List ℕ)) (row : List ℕ × T) (rows : List (List ℕ × T)) (first new : List (List ℕ)) (count : ℕ) → AreFirst most after rows first count
    → comes_after after row.0 ≡ true → new ≡ take most (insert_name row.0 first) → AreFirst most after (row ∷ rows) new (count + 1)
one_more most after row rows first new count are comes is =
    let all : names_of after (row ∷ rows) ≡ insert_name row.0 (names_of after rows) =
    ap (λ (b : Bool). sorted_names (cond b (row.0 ∷ filter (comes_after after) (keys_of rows)) (filter (comes_after after) (keys_of rows)))) comes in
    let l = length-insert_name row.0 (names_of after rows) in
    let long = ap length all in
    record {
      first = is ∙ ap (λ xs. take most (insert_name row.0 xs)) are.first ∙ put_first most row.0 (names_of after rows) ∙ ap (take most) (sym all);
      count = omega (arith, l, long, are.count);
      few = omega (arith, are.few);
    }

pub none_more : {T : Type 0} (most : ℕ) (after : Option (List ℕ)) (row : List ℕ × T) (rows : List (List ℕ × T)) (first : List (List ℕ)) (count : ℕ) → AreFirst most after rows first count
    → comes_after after row.0 ≡ false → AreFirst most after (row ∷ rows) first count
none_more most after row rows first count are comes =
    let all : names_of after (row ∷ rows) ≡ names_of after rows =
    ap (λ (b : Bool). sorted_names (cond b (row.0 ∷ filter (comes_after after) (keys_of rows)) (filter (comes_after after) (keys_of rows)))) comes in
    let long = ap length all in
    record {
      first = are.first ∙ ap (take most) (sym all);
      count = omega (arith, long, are.count);
      few = omega (arith, are.few);
    }

-- the row at a place, before those behind it
pub row_before : {A : Type 0} (xs : List A) (i : ℕ) (x : A) → slice_get xs i ≡ Some x → drop i xs ≡ x ∷ drop (suc i) xs
row_before [] i x e = absurd cc
row_before (y ∷ ys) zero x e = ap (λ z. z ∷ ys) (same e) ∙ ap (λ zs. x ∷ zs) (sym (none ys))
  where
    same : Some y ≡ Some x → y ≡ x
    same e = cc e

    none : {A : Type 0} (zs : List A) → drop 0 zs ≡ zs
    none [] = refl
    none (z ∷ zs) = refl
row_before (y ∷ ys) (suc i) x e = row_before ys i x e
