-- What is kept of a line, as its parts come in.
use Rattle.std.proofs.Common.{◌≡◌, ℕ, suc, zero, ◌+◌, ◌-◌, ◌≤◌, min, List, [], ◌∷◌, ◌++◌, length, take, refl, sym, ap, ◌∙◌, arith, length-take}
use Rattle.std.proofs.lemmas.List.{take_min}
use Rattle.std.proofs.Math.Seq.{take-append-add}

-- a part is put to the line as far as there is room for it
pub kept_part : (most : ℕ) (xs ys : List ℕ) → length xs ≤ most → xs ++ take (min (most - length xs) (length ys)) ys ≡ take most (xs ++ ys)
kept_part most xs ys h =
    let size : length xs + (most - length xs) ≡ most = omega arith in
    ap (λ (l : List ℕ). xs ++ l) (take_min (most - length xs) ys) ∙ sym (take-append-add xs ys (most - length xs)) ∙ ap (λ (n : ℕ). take n (xs ++ ys)) size

-- what is kept of a line's front is enough for what is kept of the line
pub kept_more : (most : ℕ) (xs ys : List ℕ) → take most (take most xs ++ ys) ≡ take most (xs ++ ys)
kept_more zero xs ys = refl
kept_more (suc most) [] ys = refl
kept_more (suc most) (x ∷ xs) ys = ap (λ (l : List ℕ). x ∷ l) (kept_more most xs ys)

pub kept_length : (most : ℕ) (xs line : List ℕ) → line ≡ take most xs → length line ≤ most
kept_length most xs line h = omega (arith, ap length h, length-take most xs)
