-- How many elements pass, counted from the front.
use Rattle.std.proofs.Common.{◌≡◌, ℕ, ◌+◌, Bool, cond, List, [], ◌∷◌, count_by, if◌then◌else◌, refl, sym, ◌∙◌, ap}
use Rattle.std.proofs.lemmas.List.Sums.{sum_by-cons}

abbrev pub many : {A : Type 0} → (A → Bool) → List A → ℕ
many p [] = 0
many p (x ∷ xs) = (if p x then 1 else 0) + many p xs

pub many-counts : {A : Type 0} (p : A → Bool) (xs : List A) → many p xs ≡ count_by p xs
many-counts p [] = refl
many-counts p (x ∷ xs) = ap (λ (n : ℕ). cond (p x) 1 0 + n) (many-counts p xs) ∙ sym (sum_by-cons (λ y. cond (p y) 1 0) x xs)
