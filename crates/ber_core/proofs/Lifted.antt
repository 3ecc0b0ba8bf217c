-- Octets moved up by two, as the first of them and the last of them.
use Rattle.std.proofs.Common.{◌≡◌, ℕ, suc, ◌+◌, ◌≤◌, List, [], ◌∷◌, ◌++◌, length, take, drop, sym, ap, ◌∙◌, arith, append-nil, length-append, length-drop, length-take}
use Rattle.std.proofs.Math.Seq.{take-add, take-take}
use Rattle.std.proofs.lemmas.List.{take-append-le, drop_all}
use borrow.Rule.Slice.PartMut.{put_mid, post_of}

after : (k i j : ℕ) (x y : ℕ) (os front : List ℕ) → length os ≡ i + k → length front ≡ k → j ≡ k → post_of (suc (suc i)) j (put_mid 2 k (x ∷ y ∷ os) front) ≡ []
after k i j x y os front long wide is =
    drop_all j (drop (suc (suc i)) (put_mid 2 k (x ∷ y ∷ os) front)) (omega (arith, length-drop (suc (suc i)) (put_mid 2 k (x ∷ y ∷ os) front), length-append front (drop k os), length-drop k os))

joined : (k i : ℕ) (old front : List ℕ) → i ≤ k → front ≡ take k old → take i front ++ take k (drop i old) ≡ take (i + k) old
joined k i old front le is = ap (λ (s : List ℕ). take i s ++ take k (drop i old)) is ∙ ap (λ (s : List ℕ). s ++ take k (drop i old)) (take-take i k old le) ∙ sym (take-add i k old)

two_first : (k i j x y : ℕ) (os front back : List ℕ) → length os ≡ i + k → i ≤ k → j ≡ k → length front ≡ k → front ≡ take k (x ∷ y ∷ os) → back ≡ take k (drop i (x ∷ y ∷ os))
    → drop 2 (put_mid (suc (suc i)) j (put_mid 2 k (x ∷ y ∷ os) front) back) ≡ take (i + k) (x ∷ y ∷ os)
two_first k i j x y os front back long le is wide is_front is_back =
    ap (λ (s : List ℕ). take i (front ++ drop k os) ++ (back ++ s)) (after k i j x y os front long wide is)
    ∙ ap (λ (s : List ℕ). take i (front ++ drop k os) ++ s) (append-nil back)
    ∙ ap (λ (s : List ℕ). s ++ back) (take-append-le i front (drop k os) (omega arith))
    ∙ ap (λ (s : List ℕ). take i front ++ s) is_back
    ∙ joined k i (x ∷ y ∷ os) front le is_front

-- the first and the last so many of them, written two places further
pub lifted : (k i n a j : ℕ) (old front back : List ℕ) → n ≡ i + k → a ≡ suc (suc i) → j ≡ k → i ≤ k → length old ≡ n + 2 → front ≡ take k old → back ≡ take k (drop i old)
    → drop 2 (put_mid a j (put_mid 2 k old front) back) ≡ take n old
lifted k i n a j [] front back is_n is_a is le long is_front is_back = absurd (omega arith)
lifted k i n a j (x ∷ []) front back is_n is_a is le long is_front is_back = absurd (omega arith)
lifted k i n a j (x ∷ y ∷ os) front back is_n is_a is le long is_front is_back =
    let wide : length front ≡ k = ap length is_front ∙ length-take k (x ∷ y ∷ os) ∙ omega arith in
    ap (λ (m : ℕ). drop 2 (put_mid m j (put_mid 2 k (x ∷ y ∷ os) front) back)) is_a
    ∙ two_first k i j x y os front back (omega arith) le is wide is_front is_back
    ∙ ap (λ (m : ℕ). take m (x ∷ y ∷ os)) (sym is_n)
