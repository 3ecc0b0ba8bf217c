-- Digits of a number.
use Rattle.std.proofs.Common.{◌≡◌, ℕ, zero, suc, refl, ◌+◌, ◌/◌, ◌%◌, ◌^◌, ◌<◌, ◌≤◌, List, [], ◌∷◌, ◌++◌, length, take, ap, ap₂, sym, ◌∙◌, append_assoc, length-append, arith}
use Rattle.std.proofs.lemmas.List.{take-append-le, length-take-le}
use Rattle.std.proofs.Math.Seq.{take-append-add}
use Rattle.std.proofs.lemmas.Fmt.{decimal_digit, decimal_step}
use Rattle.std.specs.Fmt.{decimal}

-- a number of one digit
pub one_digit : (n : ℕ) → n < 10 → decimal n ≡ (48 + n) ∷ []
one_digit n h = decimal_digit n h

pub digit_and_blank : (text : List ℕ) (n : ℕ) → n < 10 → (text ++ decimal n) ++ 32 ∷ [] ≡ text ++ (48 + n) ∷ 32 ∷ []
digit_and_blank text n h = append_assoc text (decimal n) (32 ∷ []) ∙ ap (λ (digits : List ℕ). text ++ (digits ++ 32 ∷ [])) (one_digit n h)

take_less : (n m : ℕ) (xs : List ℕ) → n ≤ m → take n (take m xs) ≡ take n xs
take_less zero m xs l = refl
take_less (suc n) zero xs l = absurd (omega (arith, l))
take_less (suc n) (suc m) [] l = refl
take_less (suc n) (suc m) (x ∷ xs) l = ap (λ (ys : List ℕ). x ∷ ys) (take_less n m xs (omega (arith, l)))

-- digits that were copied with what stands behind them, of which no more is kept
pub copied_behind : (end size len : ℕ) (items to after more : List ℕ) → end ≤ length items → size ≤ length to → end + size ≤ len
    → take (end + size) (take len ((take end items ++ (to ++ after)) ++ more)) ≡ take end items ++ take size to
copied_behind end size len items to after more e s l =
    let front : length (take end items) ≡ end = length-take-le end items e in
    let both : length (take end items ++ (to ++ after)) ≡ end + (length to + length after) = length-append (take end items) (to ++ after) ∙ ap₂ (λ (m n : ℕ). m + n) front (length-append to after) in
    take_less (end + size) len ((take end items ++ (to ++ after)) ++ more) l
    ∙ take-append-le (end + size) (take end items ++ (to ++ after)) more (omega (arith, both, s))
    ∙ ap (λ (n : ℕ). take (n + size) (take end items ++ (to ++ after))) (sym front)
    ∙ take-append-add (take end items) (to ++ after) size
    ∙ ap (λ (l : List ℕ). take end items ++ l) (take-append-le size to after s)

-- digits that were put behind a text, and then no more: its front is as it was
pub front_kept : (old mid new digits : List ℕ) (begin end : ℕ) → begin ≤ length old → begin ≤ end → take end new ≡ take end mid → take end mid ≡ take begin old ++ digits → take begin new ≡ take begin old
front_kept old mid new digits begin end h l k t =
    sym (take_less begin end new l)
    ∙ ap (take begin) (k ∙ t)
    ∙ take-append-le begin (take begin old) digits (omega (arith, length-take-le begin old h))
    ∙ take_less begin begin old (omega arith)

-- 0 is spelled by one digit
pub zero_spelled : 48 ∷ [] ≡ decimal 0
zero_spelled = sym (one_digit 0 (omega arith))

-- ---- the last digit

last_digit : (n : ℕ) → 10 ≤ n → n < 2 ^ 64 → decimal n ≡ decimal (n / 10) ++ (48 + n % 10) ∷ []
last_digit n l h = decimal_step n l h

pub last_and_blank : (text : List ℕ) (n : ℕ) → 10 ≤ n → n < 2 ^ 64 → (text ++ decimal n) ++ 32 ∷ [] ≡ (text ++ decimal (n / 10)) ++ (48 + n % 10) ∷ 32 ∷ []
last_and_blank text n l h =
    ap (λ (digits : List ℕ). (text ++ digits) ++ 32 ∷ []) (last_digit n l h)
    ∙ ap (λ (front : List ℕ). front ++ 32 ∷ []) (sym (append_assoc text (decimal (n / 10)) ((48 + n % 10) ∷ [])))
    ∙ append_assoc (text ++ decimal (n / 10)) ((48 + n % 10) ∷ []) (32 ∷ [])

pub two_and_blank : (text : List ℕ) (n : ℕ) → 10 ≤ n → n < 100 → (text ++ decimal n) ++ 32 ∷ [] ≡ text ++ (48 + n / 10) ∷ (48 + n % 10) ∷ 32 ∷ []
two_and_blank text n l h =
    last_and_blank text n l (omega (arith, h))
    ∙ ap (λ (digits : List ℕ). (text ++ digits) ++ (48 + n % 10) ∷ 32 ∷ []) (one_digit (n / 10) (omega (arith, h)))
    ∙ append_assoc text ((48 + n / 10) ∷ []) ((48 + n % 10) ∷ 32 ∷ [])
