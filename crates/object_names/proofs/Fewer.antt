-- No more rows are left than there were.
use Rattle.std.proofs.Common.{ℕ, ◌≤◌, Bool, true, false, List, [], ◌∷◌, filter, length, arith, ◌≡◌, refl}

pub still_few : {A : Type 0} (p : A → Bool) (xs : List A) (most : ℕ) → length xs ≤ most → length (filter p xs) ≤ most
still_few p xs most few = let h = fewer p xs in omega (arith, few, h)
  where
    fewer : {A : Type 0} (p : A → Bool) (xs : List A) → length (filter p xs) ≤ length xs
    fewer p [] = omega arith
    fewer p (x ∷ xs) = by_first (p x) refl (fewer p xs)
      where
        by_first : (b : Bool) → p x ≡ b → length (filter p xs) ≤ length xs → length (filter p (x ∷ xs)) ≤ length (x ∷ xs)
        by_first true e rest = rw e (omega (arith, rest))
        by_first false e rest = rw e (omega (arith, rest))
