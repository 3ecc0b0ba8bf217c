-- Counts, item by item.
use Rattle.std.proofs.Common.{◌≡◌, ℕ, zero, suc, ◌+◌, ◌≤◌, List, [], ◌∷◌, map, take, length, Some, slice_get, refl, sym, ap, ◌∙◌, arith}
use Rattle.std.specs.List.{sum_by}
use Rattle.std.proofs.lemmas.List.Sums.{sum_by-cons}

module _ {X : Type 0} (f : X → ℕ) where
  at_suc : (xs : List X) (i : ℕ) (x : X) → slice_get xs i ≡ Some x → sum_by f (take (suc i) xs) ≡ sum_by f (take i xs) + f x
  at_suc [] i x at = absurd (cc at)
  at_suc (y ∷ xs) zero x at = let same : f y ≡ f x = ap f (cc at) in let one = sum_by-cons f y [] in omega (arith, same, one)
  at_suc (y ∷ xs) (suc i) x at = let rest = at_suc xs i x at in omega (arith, rest, sum_by-cons f y (take (suc i) xs), sum_by-cons f y (take i xs))

  -- one item more
  pub one_summed : (xs : List X) (i : ℕ) (x : X) → slice_get xs i ≡ Some x → sum_by f (take (i + 1) xs) ≡ sum_by f (take i xs) + f x
  one_summed xs i x at =
      let more : i + 1 ≡ suc i = omega arith in
      ap (λ k. sum_by f (take k xs)) more ∙ at_suc xs i x at

  -- all of them
  pub all_summed : (xs : List X) (i : ℕ) → length xs ≤ i → sum_by f (take i xs) ≡ sum_by f xs
  all_summed [] zero le = refl
  all_summed [] (suc i) le = refl
  all_summed (x ∷ xs) zero le = absurd (omega (arith, le))
  all_summed (x ∷ xs) (suc i) le = let rest = all_summed xs i (omega (arith, le)) in omega (arith, rest, sum_by-cons f x (take i xs), sum_by-cons f x xs)

pub sum_mapped : {X Y : Type 0} (g : X → Y) (f : Y → ℕ) (xs : List X) → sum_by f (map g xs) ≡ sum_by (λ x. f (g x)) xs
sum_mapped g f [] = refl
sum_mapped g f (x ∷ xs) = sum_by-cons f (g x) (map g xs) ∙ ap (λ n. f (g x) + n) (sum_mapped g f xs) ∙ sym (sum_by-cons (λ y. f (g y)) x xs)
