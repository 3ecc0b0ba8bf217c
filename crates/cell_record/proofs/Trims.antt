-- Blanks at both ends, one further.
use Rattle.std.proofs.Common.{◌≡◌, ℕ, ◌+◌, ◌-◌, ◌<◌, ◌≤◌, true, false, List, [], ◌∷◌, ◌++◌, length, take, drop, get_or, refl, sym, ap, ◌∙◌, arith}
use Rattle.std.proofs.lemmas.List.{drop_more, take_more}
use Rattle.cell_record.specs.Words.{is_blank, trim_front, trim_back, onto_kept}

pub front_more : (line : List ℕ) (n d : ℕ) → n < length line → is_blank (get_or line n d) ≡ true → trim_front (drop n line) ≡ trim_front (drop (n + 1) line)
front_more line n d h e = rw (drop_more line n d h, e) refl

pub front_stop : (line : List ℕ) (n d : ℕ) → n < length line → is_blank (get_or line n d) ≡ false → trim_front (drop n line) ≡ drop n line
front_stop line n d h e = rw (drop_more line n d h, e) refl

back_blank : (xs : List ℕ) (b : ℕ) → is_blank b ≡ true → trim_back (xs ++ b ∷ []) ≡ trim_back xs
back_blank [] b e = rw e refl
back_blank (x ∷ xs) b e = ap (onto_kept x) (back_blank xs b e)

onto_end : (x : ℕ) (xs : List ℕ) (b : ℕ) → onto_kept x (xs ++ b ∷ []) ≡ x ∷ (xs ++ b ∷ [])
onto_end x [] b = refl
onto_end x (y ∷ ys) b = refl

pub back_kept : (xs : List ℕ) (b : ℕ) → is_blank b ≡ false → trim_back (xs ++ b ∷ []) ≡ xs ++ b ∷ []
back_kept [] b e = rw e refl
back_kept (x ∷ xs) b e = ap (onto_kept x) (back_kept xs b e) ∙ onto_end x xs b

pub back_more : (line : List ℕ) (n d : ℕ) → 0 < n → n ≤ length line → is_blank (get_or line (n - 1) d) ≡ true → trim_back (take (n - 1) line) ≡ trim_back (take n line)
back_more line n d p h e =
    let one : n - 1 + 1 ≡ n = omega arith in
    sym (ap (λ (k : ℕ). trim_back (take k line)) (sym one) ∙ ap trim_back (take_more line (n - 1) d (omega arith)) ∙ back_blank (take (n - 1) line) (get_or line (n - 1) d) e)

pub back_stop : (line : List ℕ) (n d : ℕ) → 0 < n → n ≤ length line → is_blank (get_or line (n - 1) d) ≡ false → trim_back (take n line) ≡ take n line
back_stop line n d p h e =
    let one : n - 1 + 1 ≡ n = omega arith in
    let whole : take n line ≡ take (n - 1) line ++ get_or line (n - 1) d ∷ [] = ap (λ (k : ℕ). take k line) (sym one) ∙ take_more line (n - 1) d (omega arith) in
    ap trim_back whole ∙ back_kept (take (n - 1) line) (get_or line (n - 1) d) e ∙ sym whole
