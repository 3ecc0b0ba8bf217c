-- A list that is cut by places: each of its elements has one, and those of one place stand together, in the order of places (this profile's choice).
use Rattle.std.specs.Prelude.{ℕ, zero, suc, ◌==◌, ◌<◌, ◌≤◌, nat_le, List, [], ◌∷◌, ◌++◌, filter, map, if◌then◌else◌}

-- numbers below n, none of which is less than the one before it, from one on
abbrev pub RiseFrom : ℕ → ℕ → List ℕ → Type 0
RiseFrom n low [] = Unit {0}
RiseFrom n low (p ∷ ps) = (low ≤ p) × (p < n) × RiseFrom n p ps

module _ {A : Type 0} (place : A → ℕ) where
  -- each has one of n places, and those of one place stand together, in order of places
  abbrev pub IsInOrder : ℕ → List A → Type 0
  IsInOrder n xs = RiseFrom n 0 (map place xs)

  -- those of one place
  abbrev pub only : ℕ → List A → List A
  only k xs = filter (λ x. place x == k) xs

  -- the lists of those of n places, from one on
  abbrev pub cut_from : ℕ → ℕ → List A → List (List A)
  cut_from k zero xs = []
  cut_from k (suc n) xs = only k xs ∷ cut_from (suc k) n xs

  -- what lists have at n places, from one on: of each list those of its place, one list behind the other
  abbrev pub joined_from : ℕ → ℕ → (ℕ → List A) → List A
  joined_from k zero at = []
  joined_from k (suc n) at = only k (at k) ++ joined_from (suc k) n at

  abbrev pub gathered : ℕ → (ℕ → List A) → List A
  gathered n at = joined_from 0 n at

  -- one more, behind those of its place
  abbrev pub put_behind : A → List A → List A
  put_behind x [] = x ∷ []
  put_behind x (y ∷ ys) = if nat_le (place y) (place x) then y ∷ put_behind x ys else x ∷ y ∷ ys
