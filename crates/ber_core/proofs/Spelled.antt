-- What is written is an element, a length and a number again.
use Rattle.std.proofs.Common.{◌≡◌, ℕ, zero, suc, ◌+◌, ◌*◌, ◌-◌, ◌/◌, ◌%◌, ◌^◌, ◌<◌, ◌≤◌, ℤ, pos, negsuc, inl, inr, Bool, true, false, cond, ltb, List, [], ◌∷◌, ◌++◌, length, get_or, refl, sym, ap, subst, ◌∙◌, append_assoc, arith, lit≤}
use Rattle.std.specs.Prelude.{FitsSigned}
use Rattle.std.specs.Int.{w64}
use Rattle.std.proofs.lemmas.Bool.{ltb-true, ltb-false, lt-ltb, cases_lt}
use Rattle.std.proofs.lemmas.List.{length-append, get_or_append_left, get_or-append_right}
use Rattle.std.proofs.lemmas.Grind.{fold-append, pow_more}
use Rattle.ber_core.specs.declared.element.Tag.{Tag}
use Rattle.ber_core.specs.declared.element.Lengths.{Lengths}
use Rattle.ber_core.specs.declared.element.Lengths.TheVariants.{Definite, Either}
use Rattle.ber_core.specs.Element.{head_of, IsIdentifier, Announces, IsDefiniteElement, IsElement, of_definite, number_of}
use Rattle.ber_core.specs.Leaf.{complements, IsInteger}
use Rattle.ber_core.specs.Spelling.{identifier_octets, digits, length_octets, integer_octets, element_octets}
use Rattle.ber_core.proofs.Definites.{IsBytes}
use Rattle.ber_core.proofs.Leaves.{complement_sum}

-- digits that spell a number
pub record AreDigits (bound most : ℕ) (ds : List ℕ) (n : ℕ) : Type 0 where
  pub value : number_of ds ≡ n
  pub some : 0 < length ds
  pub few : length ds ≤ most
  pub head : get_or ds 0 0 < bound
  pub fits : IsBytes ds

one_more : (bound most : ℕ) (ds : List ℕ) (n b : ℕ) → b < 256 → AreDigits bound most ds n → AreDigits bound (suc most) (ds ++ b ∷ []) (256 * n + b)
one_more bound most ds n b small d = record {
  value = fold-append (λ m c. 256 * m + c) 0 ds (b ∷ []) ∙ ap (λ (m : ℕ). 256 * m + b) d.value;
  some = omega (arith, length-append ds (b ∷ []));
  few = omega (arith, length-append ds (b ∷ []), d.few);
  head = subst (λ (m : ℕ). m < bound) (sym (get_or_append_left ds (b ∷ []) 0 0 d.some)) d.head;
  fits = λ i. elim (cases_lt i (length ds)) [
    | inl lt ↦ subst (λ (m : ℕ). m < 256) (sym (get_or_append_left ds (b ∷ []) 0 i lt)) (d.fits i)
    | inr le ↦ subst (λ (m : ℕ). m < 256) (sym (get_or-append_right ds (b ∷ []) (length ds) i 0 refl le)) (last (i - length ds))
  ];
}
  where
    last : (j : ℕ) → get_or (b ∷ []) j 0 < 256
    last zero = small
    last (suc j) = omega arith

single : (bound k n : ℕ) → n < bound → n < 256 → AreDigits bound (suc k) (n ∷ []) n
single bound k n lt small = record { value = omega arith; some = omega arith; few = omega arith; head = lt; fits = elim [ zero ↦ small | suc i ↦ omega arith ] }

regroup : (bound k : ℕ) → bound * 256 ^ suc k ≡ bound * 256 ^ k * 256
regroup bound k = ap (λ (m : ℕ). bound * m) (ap (λ (m : ℕ). 256 ^ m) next ∙ pow_more 256 k) ∙ omega arith
  where
    next : suc k ≡ k + 1
    next = omega arith

divided : (m j : ℕ) → j < m * 256 → j / 256 < m
divided m j lt = omega arith

pub digits_are : (bound k n : ℕ) → bound ≤ 256 → n < bound * 256 ^ k → AreDigits bound (suc k) (digits bound (suc k) n) n
unfolding digits
digits_are bound zero n few lt =
    let low : ltb n bound ≡ true = lt-ltb _ _ (omega arith) in
    rw low (single bound 0 n (omega arith) (omega arith))
digits_are bound (suc k) n few lt = by_test (λ less. digits_are bound k (n / 256) few less) (ltb n bound) refl
  where
    by_test : (n / 256 < bound * 256 ^ k → AreDigits bound (suc k) (digits bound (suc k) (n / 256)) (n / 256)) → (b : Bool) → ltb n bound ≡ b → AreDigits bound (suc (suc k)) (cond b (n ∷ []) (digits bound (suc k) (n / 256) ++ (n % 256) ∷ [])) n
    by_test inner true e = single bound (suc k) n (ltb-true _ _ e) (omega (arith, ltb-true n bound e))
    by_test inner false e =
        let less : n / 256 < bound * 256 ^ k = divided (bound * 256 ^ k) n (subst (λ (m : ℕ). n < m) (regroup bound k) lt) in
        let more = one_more bound (suc k) (digits bound (suc k) (n / 256)) (n / 256) (n % 256) (omega arith) (inner less) in
        subst (λ (m : ℕ). AreDigits bound (suc (suc k)) (digits bound (suc k) (n / 256) ++ (n % 256) ∷ []) m) (omega arith) more

-- ---- numbers

positive_spelled : (ds : List ℕ) (n : ℕ) → AreDigits 128 8 ds n → IsInteger ds (pos n)
positive_spelled [] n d = absurd (omega (arith, d.some))
positive_spelled (a ∷ ds) n d =
    (d.few, (d.head, d.value))

map_length : (ds : List ℕ) → length (complements ds) ≡ length ds
map_length [] = refl
map_length (d ∷ ds) = ap suc (map_length ds)

negative_spelled : (ds : List ℕ) (n : ℕ) → AreDigits 128 8 ds n → IsInteger (complements ds) (negsuc n)
negative_spelled [] n d = absurd (omega (arith, d.some))
negative_spelled (a ∷ ds) n d =
    let lt : a < 128 = d.head in
    let same : 256 ^ length (complements (a ∷ ds)) ≡ 256 ^ length (a ∷ ds) = ap (λ (k : ℕ). 256 ^ k) (map_length (a ∷ ds)) in
    (subst (λ (m : ℕ). suc m ≤ 8) (sym (map_length ds)) d.few, (omega arith, omega (arith, same, d.value, complement_sum (a ∷ ds) 0 0 d.fits)))

abbrev pub FitsLong : ℤ → Type 0
FitsLong (pos n) = n < 2 ^ 63
FitsLong (negsuc n) = n < 2 ^ 63

pub fits_long : (n : ℤ) → FitsSigned w64 n → FitsLong n
fits_long (pos n) fits = fits.sfits
fits_long (negsuc n) fits = fits.sfits

pub integer_spelled : (n : ℤ) → FitsLong n → IsInteger (integer_octets n) n
integer_spelled (pos n) fits = positive_spelled (digits 128 8 n) n (digits_are 128 7 n (lit≤ tt) fits)
integer_spelled (negsuc n) fits = negative_spelled (digits 128 8 n) n (digits_are 128 7 n (lit≤ tt) fits)

-- ---- elements

length_spelled : (n : ℕ) → n < 2 ^ 64 → Announces (length_octets n) n
unfolding length_octets
length_spelled n fits = by_test (ltb n 128) refl
  where
    long : (ds : List ℕ) → AreDigits 256 8 ds n → Announces ((128 + length ds) ∷ ds) n
    long [] d = absurd (omega (arith, d.some))
    long (b ∷ ds) d = (omega arith, omega (arith, d.few), omega arith, sym d.value)

    by_test : (b : Bool) → ltb n 128 ≡ b → Announces (cond b (n ∷ []) ((128 + length (digits 256 8 n)) ∷ digits 256 8 n)) n
    by_test true e = (ltb-true _ _ e, refl)
    by_test false e = long (digits 256 8 n) (digits_are 256 7 n (lit≤ tt) fits)

identifier_spelled : (t : Tag) → t.class < 4 → t.number < 16384 → IsIdentifier (identifier_octets t) t
unfolding identifier_octets
identifier_spelled t class number = by_test (ltb t.number 31) refl (ltb t.number 128) refl
  where
    by_test : (b : Bool) → ltb t.number 31 ≡ b → (c : Bool) → ltb t.number 128 ≡ c
        → IsIdentifier (cond b ((head_of t + t.number) ∷ []) (cond c ((head_of t + 31) ∷ t.number ∷ []) ((head_of t + 31) ∷ (128 + t.number / 128) ∷ (t.number % 128) ∷ []))) t
    by_test true e c k = (class, ltb-true _ _ e, refl)
    by_test false e true k = (class, refl, ltb-false _ _ e, ltb-true _ _ k, refl)
    by_test false e false k = let high : 128 ≤ t.number = ltb-false _ _ k in (class, refl, omega arith, omega arith, omega arith, omega arith)

definite_spelled : (t : Tag) (c : List ℕ) → t.class < 4 → t.number < 16384 → length c < 2 ^ 64 → IsDefiniteElement (element_octets t c) (record { tag = t; contents = c })
unfolding element_octets
definite_spelled t c class number fits = record {
  identifier = identifier_octets t;
  announced = length_octets (length c);
  tag = identifier_spelled t class number;
  size = length_spelled (length c) fits;
  whole = sym (append_assoc (identifier_octets t) (length_octets (length c)) c);
}

-- What is written is one element.
pub element_spelled : (lengths : Lengths) (t : Tag) (c : List ℕ) → t.class < 4 → t.number < 16384 → length c < 2 ^ 64 → IsElement lengths (element_octets t c) (record { tag = t; contents = c })
element_spelled Definite t c class number fits = definite_spelled t c class number fits
element_spelled Either t c class number fits = of_definite (element_octets t c) (record { tag = t; contents = c }) (definite_spelled t c class number fits)

-- contents are no longer than their element
pub contents_shorter : (t : Tag) (c : List ℕ) → length c ≤ length (element_octets t c)
unfolding element_octets
contents_shorter t c = omega (arith, length-append (identifier_octets t) (length_octets (length c) ++ c), length-append (length_octets (length c)) c)
