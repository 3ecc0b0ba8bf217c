-- The greatest of numbers that stand one after the other.
use Rattle.std.proofs.Common.{◌≡◌, ℕ, ◌+◌, ◌<◌, max, List, [], ◌∷◌, ◌++◌, length, map, take, get_or, sym, ap, ◌∙◌, arith}
use Rattle.std.proofs.lemmas.Grind.{take_at_read}
use Rattle.mms_types.specs.Depths.{greatest}

greatest_push : {A : Type 0} (f : A → ℕ) (xs : List A) (x : A) → greatest (map f (xs ++ x ∷ [])) ≡ max (greatest (map f xs)) (f x)
greatest_push f [] x = omega arith
greatest_push f (y ∷ xs) x = omega (arith, greatest_push f xs x)

-- those before the next one, and it
pub greatest_next : {A : Type 0} (f : A → ℕ) (xs : List A) (i : ℕ) (x : A) → i < length xs → x ≡ get_or xs i x → greatest (map f (take (i + 1) xs)) ≡ max (greatest (map f (take i xs))) (f x)
greatest_next f xs i x lt is =
    ap (λ ys. greatest (map f ys)) ((take_at_read xs i x lt).1 ∙ ap (λ y. take i xs ++ y ∷ []) (sym is)) ∙ greatest_push f (take i xs) x
