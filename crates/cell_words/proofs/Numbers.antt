-- What a text of digits writes.
use Rattle.std.proofs.Common.{◌≡◌, ◌&&◌, ◌==◌, refl, sym, ap, ℕ, Bool, true, false, cond, [], ◌∷◌, Some, None, drop, length}
use Rattle.std.proofs.Common.{◌<◌, ◌^◌, arith}
use Rattle.std.specs.Prelude.{nat_le}
use Rattle.std.specs.List.{list_all}
use Rattle.std.specs.Str.Parse.{AllDigits, IsNumeral, digits_value, without_leading_plus}
use Rattle.std.proofs.lemmas.Str.{digit_value_digit}
use Rattle.std.proofs.lemmas.Bool.{leb-true, lt-leb, ne_eqb}
use Rattle.cell_words.specs.Words.{Text, is_digit, number_in}

both : (a b : Bool) → (a && b) ≡ true → (a ≡ true) × (b ≡ true)
both true b e = (refl, e)
both false b e = cc

digits_all : (ds : Text) → list_all is_digit ds ≡ true → AllDigits 10 ds
digits_all [] e = tt
digits_all (c ∷ cs) e =
    let k = both _ _ e in
    let m = both (nat_le 48 c) (nat_le c 57) k.0 in
    let low = leb-true 48 c m.0 in
    let high = leb-true c 57 m.1 in
    let is = digit_value_digit c (low, high) in
    (omega (arith, is, low, high), digits_all cs k.1)

no_plus : (ds : Text) → list_all is_digit ds ≡ true → without_leading_plus ds ≡ ds
no_plus [] e = refl
no_plus (c ∷ cs) e =
    let low = leb-true 48 c (both (nat_le 48 c) (nat_le c 57) (both _ _ e).0).0 in
    let plus : (c == 43) ≡ false = ne_eqb _ _ (λ z. omega arith) in
    ap (λ b. drop (cond b 1 0) (c ∷ cs)) plus

pub number_wide : (least most : ℕ) (text : Text) → list_all is_digit text ≡ true → 0 < length text → most < 2 ^ 64
    → ¬ (IsNumeral 10 (without_leading_plus text) × (digits_value 10 (without_leading_plus text) < 2 ^ 64)) → None ≡ number_in least most text
number_wide least most text e n small fails =
    let wide : ¬ (digits_value 10 text < 2 ^ 64) = λ lt. fails (rw (no_plus text e) ((n, digits_all text e), lt)) in
    let over : nat_le (digits_value 10 text) most ≡ false = lt-leb _ _ (omega arith) in
    sym (go (list_all is_digit text) (nat_le 1 (length text) && nat_le (length text) 20) (nat_le least (digits_value 10 text)) _ over)
  where
    go : (a b c d : Bool) → d ≡ false → cond (a && (b && (c && d))) (Some (digits_value 10 text)) None ≡ None
    go true true true d h = ap (λ z. cond z (Some (digits_value 10 text)) None) h
    go true true false d h = refl
    go true false c d h = refl
    go false b c d h = refl
