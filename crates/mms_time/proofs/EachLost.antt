-- Semaphores lose a client one after the other.
use Rattle.std.proofs.Common.{◌≡◌, ◌∙◌, ap, refl, ℕ, suc, zero, ◌+◌, List, [], ◌∷◌, ◌++◌, append-nil, append_assoc, map, take, drop, length, slice_get, Some, sym, arith, length-append}
use Rattle.std.specs.List.{flat_map}
use Rattle.std.specs.Map.{values_of}
use Rattle.indexmap.specs.Layout.{set_value_at}
use Rattle.std.proofs.lemmas.List.{length-map, take-append-drop}

module _ {K X : Type 0} (g : X → X) where
  abbrev on_value : K × X → K × X
  on_value row = (row.0, g row.1)

  step : (xs : List (K × X)) (i : ℕ) (x : X) → slice_get (values_of (map on_value (take i xs) ++ drop i xs)) i ≡ Some x
      → set_value_at (map on_value (take i xs) ++ drop i xs) i (g x) ≡ map on_value (take (suc i) xs) ++ drop (suc i) xs
  step [] i x h = absurd (none i h)
    where
      none : (i : ℕ) → slice_get (values_of (map on_value (take i []) ++ drop i [])) i ≡ Some x → ⊥
      none zero e = cc
      none (suc i) e = cc
  step (y ∷ ys) zero x h = let same : y.1 ≡ x = cc in ap (λ (z : X). (y.0, g z) ∷ ys) (sym same)
  step (y ∷ ys) (suc i) x h = ap (λ (l : List (K × X)). on_value y ∷ l) (step ys i x h)

  pub lost_more : (xs rows new : List (K × X)) (i : ℕ) (x now : X) → rows ≡ map on_value (take i xs) ++ drop i xs → slice_get (values_of rows) i ≡ Some x → now ≡ g x
      → new ≡ set_value_at rows i now → new ≡ map on_value (take (i + 1) xs) ++ drop (i + 1) xs
  lost_more xs rows new i x now is at lost set =
      let e : i + 1 ≡ suc i = omega arith in
      let there : slice_get (values_of (map on_value (take i xs) ++ drop i xs)) i ≡ Some x = ap (λ (l : List (K × X)). slice_get (values_of l) i) (sym is) ∙ at in
      set ∙ ap (set_value_at rows i) lost ∙ ap (λ (l : List (K × X)). set_value_at l i (g x)) is ∙ step xs i x there
      ∙ ap (λ (n : ℕ). map on_value (take n xs) ++ drop n xs) (sym e)

  pub as_many : (xs rows : List (K × X)) (i : ℕ) → rows ≡ map on_value (take i xs) ++ drop i xs → length rows ≡ length xs
  as_many xs rows i is =
      ap length is ∙ length-append (map on_value (take i xs)) (drop i xs)
      ∙ ap (λ (n : ℕ). n + length (drop i xs)) (length-map (take i xs) on_value)
      ∙ sym (length-append (take i xs) (drop i xs)) ∙ ap length (take-append-drop i xs)

  pub all_lost : (xs rows : List (K × X)) (i : ℕ) → rows ≡ map on_value (take i xs) ++ drop i xs → i ≡ length xs → rows ≡ map on_value xs
  all_lost xs rows i is end = is ∙ whole xs i end
    where
      whole : (xs : List (K × X)) (i : ℕ) → i ≡ length xs → map on_value (take i xs) ++ drop i xs ≡ map on_value xs
      whole [] zero e = refl
      whole [] (suc i) e = refl
      whole (y ∷ ys) zero e = absurd (omega arith)
      whole (y ∷ ys) (suc i) e = ap (λ (l : List (K × X)). on_value y ∷ l) (whole ys i (omega arith))

-- what is made of some elements and one more
pub flat_one_more : {X A : Type 0} (f : X → List A) (xs : List X) (x : X) → flat_map f (xs ++ x ∷ []) ≡ flat_map f xs ++ f x
flat_one_more f [] x = append-nil (f x)
flat_one_more f (y ∷ ys) x = ap (λ l. f y ++ l) (flat_one_more f ys x) ∙ sym (append_assoc (f y) (flat_map f ys) (f x))
