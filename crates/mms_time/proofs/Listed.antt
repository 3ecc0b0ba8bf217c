-- The first so many of the elements that pass a test, and whether there are more.
use Rattle.std.proofs.Common.{◌≡◌, ◌∙◌, ap, sym, refl, ℕ, zero, suc, ◌+◌, ◌<◌, ◌≤◌, nat_lt, Bool, true, false, cond, List, [], ◌∷◌, ◌++◌, append-nil, map, filter, take, drop, length, get_or, slice_get, Some, arith, length-append}
use Rattle.std.proofs.lemmas.Bool.Decides.{nat_tests}
use Rattle.std.proofs.lemmas.List.{drop_more, take-append-drop, length-map}
use Rattle.std.proofs.lemmas.List.Elements.{filter-append}
use Rattle.mms_time.proofs.Names.{map_more}
use Rattle.object_names.proofs.Listed.{take_next}

take_front : {X : Type 0} (xs ys : List X) (n : ℕ) → length xs ≡ n → take n (xs ++ ys) ≡ xs
take_front [] ys zero e = refl
take_front [] ys (suc n) e = absurd (omega arith)
take_front (x ∷ xs) ys zero e = absurd (omega arith)
take_front (x ∷ xs) ys (suc n) e = ap (λ l. x ∷ l) (take_front xs ys n (omega arith))

pub take_whole : {X : Type 0} (xs : List X) (n : ℕ) → length xs ≤ n → take n xs ≡ xs
take_whole [] zero e = refl
take_whole [] (suc n) e = refl
take_whole (x ∷ xs) zero e = absurd (omega arith)
take_whole (x ∷ xs) (suc n) e = ap (λ l. x ∷ l) (take_whole xs n (omega arith))

module _ {X Y : Type 0} (f : X → Y) (p : X → Bool) (n : ℕ) where
  -- where one more passes than are told, these are the first, and there are more
  pub listed_more : (xs : List X) (i : ℕ) (d : X) (told : List Y) → i < length xs → p (get_or xs i d) ≡ true → told ≡ map f (filter p (take i xs)) → length told ≡ n
      → (told ≡ map f (take n (filter p xs))) × (true ≡ nat_lt n (length (filter p xs)))
  listed_more xs i d told low passes is full =
      let front = filter p (take i xs) in
      let rest = filter p (drop (i + 1) xs) in
      let back : filter p (drop i xs) ≡ get_or xs i d ∷ rest = ap (filter p) (drop_more xs i d low) ∙ ap (λ b. cond b (get_or xs i d ∷ rest) rest) passes in
      let all : filter p xs ≡ front ++ get_or xs i d ∷ rest = ap (filter p) (sym (take-append-drop i xs)) ∙ filter-append p (take i xs) (drop i xs) ∙ ap (λ l. front ++ l) back in
      let count : length front ≡ n = sym (length-map front f) ∙ ap length (sym is) ∙ full in
      let sum : length (filter p xs) ≡ length front + length (get_or xs i d ∷ rest) = ap length all ∙ length-append front (get_or xs i d ∷ rest) in
      (is ∙ ap (map f) (sym (ap (take n) all ∙ take_front front (get_or xs i d ∷ rest) n count)), grind (arith, nat_tests))

  -- where no more pass, all are told
  pub listed_all : (xs : List X) (told : List Y) → told ≡ map f (filter p xs) → length told ≤ n
      → (told ≡ map f (take n (filter p xs))) × (false ≡ nat_lt n (length (filter p xs)))
  listed_all xs told is few =
      let count : length (filter p xs) ≤ n = omega (arith, length-map (filter p xs) f, ap length is) in
      (is ∙ ap (map f) (sym (take_whole (filter p xs) n count)), grind (arith, nat_tests))

-- ---- by place

pub low_place : {X : Type 0} (xs : List X) (i : ℕ) (x : X) → slice_get xs i ≡ Some x → i < length xs
low_place [] zero x e = absurd cc
low_place [] (suc i) x e = absurd cc
low_place (y ∷ ys) zero x e = omega arith
low_place (y ∷ ys) (suc i) x e = let low = low_place ys i x e in omega arith

pub at_place : {X : Type 0} (xs : List X) (i : ℕ) (x : X) → slice_get xs i ≡ Some x → get_or xs i x ≡ x
at_place [] zero x e = absurd cc
at_place [] (suc i) x e = absurd cc
at_place (y ∷ ys) zero x e = cc
at_place (y ∷ ys) (suc i) x e = at_place ys i x e

module _ {X Y : Type 0} (f : X → Y) (p : X → Bool) where
  here : (xs : List X) (i : ℕ) (x : X) (b : Bool) → slice_get xs i ≡ Some x → p x ≡ b → filter p (take (i + 1) xs) ≡ filter p (take i xs) ++ cond b (x ∷ []) []
  here xs i x b at is =
      ap (filter p) (take_next xs i x at) ∙ filter-append p (take i xs) (x ∷ []) ∙ ap (λ (c : Bool). filter p (take i xs) ++ cond c (x ∷ []) []) is

  -- one that doesn't pass changes nothing
  pub passed_over : (xs : List X) (i : ℕ) (x : X) (told : List Y) → slice_get xs i ≡ Some x → p x ≡ false → told ≡ map f (filter p (take i xs))
      → told ≡ map f (filter p (take (i + 1) xs))
  passed_over xs i x told at fails is = is ∙ sym (ap (map f) (here xs i x false at fails ∙ append-nil (filter p (take i xs))))

  -- one that passes is told
  pub told_more : (xs : List X) (i : ℕ) (x : X) (told new : List Y) → slice_get xs i ≡ Some x → p x ≡ true → told ≡ map f (filter p (take i xs)) → new ≡ told ++ f x ∷ []
      → new ≡ map f (filter p (take (i + 1) xs))
  told_more xs i x told new at passes is set =
      set ∙ ap (λ (l : List Y). l ++ f x ∷ []) is ∙ sym (ap (map f) (here xs i x true at passes) ∙ map_more f (filter p (take i xs)) x)
