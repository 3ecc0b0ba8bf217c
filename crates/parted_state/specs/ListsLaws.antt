-- Laws of lists that are cut, changed and seen by place.
use Rattle.std.specs.Prelude.{◌≡◌, ◌≢◌, ℕ, zero, suc, ◌+◌, ◌<◌, ◌≤◌, Bool, true, false, ◌==◌, ◌||◌, Option, None, Some, List, [], ◌∷◌, ◌++◌, map, take, drop, length, slice_get, if◌then◌else◌, refl}
use Rattle.std.specs.Option.{option_map}
use Rattle.std.proofs.Common.{ap, ap₂, sym, ◌∙◌, arith}
use Rattle.part_table.specs.Held.{held_at}
use Rattle.parted_state.specs.Cut.{is_in}
use Rattle.parted_state.specs.CutLaws.{in_back, same_itself, same_number}
use Rattle.parted_state.specs.Served.{change, veiled, chosen, around}

-- ---- lists

module _ {A : Type 0} where
  pub get_front : (xs ys : List A) (i : ℕ) → i < length xs → slice_get (xs ++ ys) i ≡ slice_get xs i
  get_front [] ys i below = absurd (omega arith)
  get_front (x ∷ xs) ys zero below = refl
  get_front (x ∷ xs) ys (suc i) below = get_front xs ys i (omega arith)

  pub get_behind : (xs ys : List A) (i j : ℕ) → i ≡ length xs + j → slice_get (xs ++ ys) i ≡ slice_get ys j
  get_behind [] ys i j is = let same : i ≡ j = omega (arith, is) in ap (λ (k : ℕ). slice_get ys k) same
  get_behind (x ∷ xs) ys zero j is = absurd (omega (arith, is))
  get_behind (x ∷ xs) ys (suc i) j is = get_behind xs ys i j (omega (arith, is))

  pub get_past : (xs : List A) (i : ℕ) → length xs ≤ i → slice_get xs i ≡ None
  get_past [] i past = refl
  get_past (x ∷ xs) zero past = absurd (omega arith)
  get_past (x ∷ xs) (suc i) past = let rest : length xs ≤ i = omega arith in get_past xs i rest

  pub get_take : (n : ℕ) (xs : List A) (i : ℕ) → i < n → slice_get (take n xs) i ≡ slice_get xs i
  get_take zero xs i below = absurd (omega arith)
  get_take (suc n) [] i below = refl
  get_take (suc n) (x ∷ xs) zero below = refl
  get_take (suc n) (x ∷ xs) (suc i) below = get_take n xs i (omega arith)

  pub get_drop : (n : ℕ) (xs : List A) (i j : ℕ) → i ≡ n + j → slice_get (drop n xs) j ≡ slice_get xs i
  get_drop zero xs i j is = let same : j ≡ i = omega (arith, is) in ap (λ (k : ℕ). slice_get xs k) same
  get_drop (suc n) [] i j is = refl
  get_drop (suc n) (x ∷ xs) zero j is = absurd (omega (arith, is))
  get_drop (suc n) (x ∷ xs) (suc i) j is = get_drop n xs i j (omega (arith, is))

  pub same_list : (xs ys : List A) → ((i : ℕ) → slice_get xs i ≡ slice_get ys i) → xs ≡ ys
  same_list [] [] same = refl
  same_list [] (y ∷ ys) same = absurd (cc (same 0))
  same_list (x ∷ xs) [] same = absurd (cc (same 0))
  same_list (x ∷ xs) (y ∷ ys) same =
      let first : Some x ≡ Some y = same 0 in
      let here : x ≡ y = cc first in
      ap₂ (λ (a : A) (l : List A). a ∷ l) here (same_list xs ys (λ i. same (suc i)))

  pub length-change : (f : A → A) (xs : List A) (i : ℕ) → length (change f xs i) ≡ length xs
  length-change f [] i = refl
  length-change f (x ∷ xs) zero = refl
  length-change f (x ∷ xs) (suc i) = omega (arith, length-change f xs i)

  pub get_changed : (f : A → A) (xs : List A) (i : ℕ) → slice_get (change f xs i) i ≡ option_map f (slice_get xs i)
  get_changed f [] i = refl
  get_changed f (x ∷ xs) zero = refl
  get_changed f (x ∷ xs) (suc i) = get_changed f xs i

  pub get_change : (f : A → A) (xs : List A) (i j : ℕ) → j ≢ i → slice_get (change f xs i) j ≡ slice_get xs j
  get_change f [] i j ne = refl
  get_change f (x ∷ xs) zero zero ne = absurd (ne refl)
  get_change f (x ∷ xs) zero (suc j) ne = refl
  get_change f (x ∷ xs) (suc i) zero ne = refl
  get_change f (x ∷ xs) (suc i) (suc j) ne = get_change f xs i j (λ e. ne (ap suc e))

  drop_none : (n i : ℕ) → slice_get {X = A} (drop n []) i ≡ None
  drop_none zero i = refl
  drop_none (suc n) i = refl

  -- around a gap
  pub around_front : (f n : ℕ) (xs : List A) (i : ℕ) → i < f → slice_get (around f n xs) i ≡ slice_get xs i
  around_front zero n xs i below = absurd (omega arith)
  around_front (suc f) n [] i below = drop_none (suc f + n) i
  around_front (suc f) n (x ∷ xs) zero below = refl
  around_front (suc f) n (x ∷ xs) (suc i) below =
      let same : drop (suc f + n) (x ∷ xs) ≡ drop (f + n) xs = let e : suc f + n ≡ suc (f + n) = omega arith in ap (λ (k : ℕ). drop k (x ∷ xs)) e in
      ap (λ (l : List A). slice_get (take f xs ++ l) i) same ∙ around_front f n xs i (omega arith)

  pub around_behind : (f n : ℕ) (xs : List A) (i j : ℕ) → f ≤ i → j ≡ i + n → slice_get (around f n xs) i ≡ slice_get xs j
  around_behind zero n xs i j past is = get_drop (0 + n) xs j i (omega (arith, is))
  around_behind (suc f) n [] i j past is = drop_none (suc f + n) i
  around_behind (suc f) n (x ∷ xs) zero j past is = absurd (omega arith)
  around_behind (suc f) n (x ∷ xs) (suc i) zero past is = absurd (omega (arith, is))
  around_behind (suc f) n (x ∷ xs) (suc i) (suc j) past is =
      let same : drop (suc f + n) (x ∷ xs) ≡ drop (f + n) xs = let e : suc f + n ≡ suc (f + n) = omega arith in ap (λ (k : ℕ). drop k (x ∷ xs)) e in
      ap (λ (l : List A). slice_get (take f xs ++ l) i) same ∙ around_behind f n xs i j (omega arith) (omega (arith, is))

  -- what is seen where some places pass
  pub get_veiled : (p : ℕ → Bool) (xs : List A) (i : ℕ) → p i ≡ true → held_at (veiled p xs) i ≡ slice_get xs i
  get_veiled p [] i is = refl
  get_veiled p (x ∷ xs) zero is = ap (λ (b : Bool). if b then Some x else None) is
  get_veiled p (x ∷ xs) (suc i) is = get_veiled (λ k. p (suc k)) xs i is

  pub same_veiled : (p : ℕ → Bool) (xs ys : List A) → length xs ≡ length ys → ((i : ℕ) → p i ≡ true → slice_get xs i ≡ slice_get ys i) → veiled p xs ≡ veiled p ys
  same_veiled p [] [] many same = refl
  same_veiled p [] (y ∷ ys) many same = absurd (omega arith)
  same_veiled p (x ∷ xs) [] many same = absurd (omega arith)
  same_veiled p (x ∷ xs) (y ∷ ys) many same =
      let rest : length xs ≡ length ys = omega arith in
      ap₂ (λ (o : Option A) (l : List (Option A)). o ∷ l) (by_test (p 0) refl) (same_veiled (λ k. p (suc k)) xs ys rest (λ i is. same (suc i) is))
    where
      by_test : (b : Bool) → p 0 ≡ b → (if b then Some x else None) ≡ (if b then Some y else None)
      by_test true e = same 0 e
      by_test false e = refl

  pub get_chosen : (p : ℕ → Bool) (xs ys : List A) (i : ℕ) → length xs ≡ length ys → held_at (chosen p xs ys) i ≡ slice_get (if p i then xs else ys) i
  get_chosen p [] [] i many = sym (by_test (p i))
    where
      by_test : (b : Bool) → slice_get {X = A} (if b then [] else []) i ≡ None
      by_test true = refl
      by_test false = refl
  get_chosen p [] (y ∷ ys) i many = absurd (omega arith)
  get_chosen p (x ∷ xs) [] i many = absurd (omega arith)
  get_chosen p (x ∷ xs) (y ∷ ys) zero many = by_test (p 0)
    where
      by_test : (b : Bool) → Some (if b then x else y) ≡ slice_get (if b then x ∷ xs else y ∷ ys) 0
      by_test true = refl
      by_test false = refl
  get_chosen p (x ∷ xs) (y ∷ ys) (suc i) many =
      let rest : length xs ≡ length ys = omega arith in get_chosen (λ k. p (suc k)) xs ys i rest ∙ by_test (p (suc i))
    where
      by_test : (b : Bool) → slice_get (if b then xs else ys) i ≡ slice_get (if b then x ∷ xs else y ∷ ys) (suc i)
      by_test true = refl
      by_test false = refl

module _ {A : Type 0} where
  pub held_of_all : (xs : List A) (k : ℕ) → slice_get xs k ≡ held_at (map Some xs) k
  held_of_all [] k = refl
  held_of_all (x ∷ xs) zero = refl
  held_of_all (x ∷ xs) (suc k) = held_of_all xs k

  -- where what is chosen of one list is as the other has it
  pub chosen_same : (p : ℕ → Bool) (xs ys : List A) → length xs ≡ length ys → ((i : ℕ) → p i ≡ true → slice_get xs i ≡ slice_get ys i) → chosen p xs ys ≡ map Some ys
  chosen_same p [] [] many same = refl
  chosen_same p [] (y ∷ ys) many same = absurd (omega arith)
  chosen_same p (x ∷ xs) [] many same = absurd (omega arith)
  chosen_same p (x ∷ xs) (y ∷ ys) many same =
      let rest : length xs ≡ length ys = omega arith in
      ap₂ (λ (a : A) (l : List (Option A)). Some a ∷ l) (by_test (p 0) refl) (chosen_same (λ k. p (suc k)) xs ys rest (λ i is. same (suc i) is))
    where
      by_test : (b : Bool) → p 0 ≡ b → (if b then x else y) ≡ y
      by_test true e = let first : Some x ≡ Some y = same 0 e in cc first
      by_test false e = refl

pub get_some : {A : Type 0} (xs : List A) (i : ℕ) → slice_get (map Some xs) i ≡ option_map Some (slice_get xs i)
get_some [] i = refl
get_some (x ∷ xs) zero = refl
get_some {A} (x ∷ xs) (suc i) = get_some xs i

pub append_none : (xs : List ℕ) → xs ++ [] ≡ xs
append_none [] = refl
append_none (x ∷ xs) = ap (λ (l : List ℕ). x ∷ l) (append_none xs)

pub in_mapped : (f : ℕ → ℕ) (xs : List ℕ) (k : ℕ) → is_in xs k ≡ true → is_in (map f xs) (f k) ≡ true
in_mapped f [] k is = absurd (cc is)
in_mapped f (x ∷ xs) k is = by_test (x == k) refl (in_mapped f xs k) is
  where
    by_test : (b : Bool) → (x == k) ≡ b → (is_in xs k ≡ true → is_in (map f xs) (f k) ≡ true) → (b || is_in xs k) ≡ true → is_in (f x ∷ map f xs) (f k) ≡ true
    by_test true e rest is = ap (λ (b : Bool). b || is_in (map f xs) (f k)) (ap (λ (y : ℕ). f y == f k) (same_number x k e) ∙ same_itself (f k))
    by_test false e rest is = in_back (f x ∷ []) (map f xs) (f k) (rest is)

pub no_more : (a b : Bool) → (a || b) ≡ false → (a ≡ false) × (b ≡ false)
no_more true b h = absurd (cc h)
no_more false b h = (refl, h)
