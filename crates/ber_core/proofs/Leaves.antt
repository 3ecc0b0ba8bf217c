-- Numbers, truth values and bit strings are read exactly.
use Rattle.std.proofs.Common.{◌≡◌, ◌≢◌, ℕ, suc, ◌+◌, ◌*◌, ◌-◌, ◌^◌, ◌<◌, ◌↔◌, ℤ, pos, negsuc, ◌⊎◌, inl, inr, Bool, true, false, cond, ltb, eqb, List, [], ◌∷◌, length, Result, Ok, Err, refl, sym, ap, subst, ◌∙◌, arith}
use Rattle.std.specs.List.{fold}
use Rattle.std.specs.Prelude.{IfOk, IfErr, IsOkAnd, IsErrOf, MatchResult}
use Rattle.std.proofs.lemmas.Bool.{ltb-true, ltb-false, le-ltb, lt-ltb, eqb-true, eqb-false, eq-eqb, ne_eqb}
use Rattle.std.proofs.lemmas.Grind.{pow_more}
use Rattle.ber_core.specs.declared.element.Bits.{Bits}
use Rattle.ber_core.specs.declared.fault.BerError.{BerError}
use Rattle.ber_core.specs.declared.fault.BerError.TheVariants.{BadContents}
use Rattle.ber_core.specs.Element.{number_of}
use Rattle.ber_core.specs.Leaf.{complements, signed_of, integer_at, boolean_at, bits_at, IsInteger, IsTwosComplement, IsBoolean, IsBits, IsNoBits}
use Rattle.ber_core.proofs.Definites.{IsBytes, IsBytes-rest, chosen, ok_is}

-- ---- numbers

-- octets and their complements, from these numbers on
pub complement_sum : (octets : List ℕ) (m n : ℕ) → IsBytes octets → fold (λ k b. 256 * k + b) m octets + (fold (λ k b. 256 * k + b) n (complements octets) + 1) ≡ (m + n + 1) * 256 ^ length octets
complement_sum [] m n fits = omega arith
complement_sum (b ∷ octets) m n fits =
    let small : b < 256 = fits 0 in
    let rest = complement_sum octets (256 * m + b) (256 * n + (255 - b)) (IsBytes-rest b octets fits) in
    let sum : 256 * m + b + (256 * n + (255 - b)) + 1 ≡ (m + n + 1) * 256 = omega arith in
    rest ∙ ap (λ (k : ℕ). k * 256 ^ length octets) sum ∙ regroup (m + n + 1) (length octets)
  where
    next : (k : ℕ) → suc k ≡ k + 1
    next k = omega arith

    turned : (j p : ℕ) → j * 256 * p ≡ j * (p * 256)
    turned j p = grind arith

    regroup : (j k : ℕ) → j * 256 * 256 ^ k ≡ j * 256 ^ suc k
    regroup j k = turned j (256 ^ k) ∙ ap (λ (p : ℕ). j * p) (sym (ap (λ (i : ℕ). 256 ^ i) (next k) ∙ pow_more 256 k))

-- the number of the complements, as code computes it
pub complement_number : (octets : List ℕ) → IsBytes octets → number_of (complements octets) ≡ 256 ^ length octets - number_of octets - 1
complement_number octets fits = omega (arith, complement_sum octets 0 0 fits)

signed_is : (a : ℕ) (rest : List ℕ) → IsBytes (a ∷ rest) → IsTwosComplement (a ∷ rest) (signed_of (a ∷ rest))
signed_is a rest fits = by_sign (ltb a 128) refl
  where
    by_sign : (b : Bool) → ltb a 128 ≡ b → IsTwosComplement (a ∷ rest) (cond b (pos (number_of (a ∷ rest))) (negsuc (256 ^ length (a ∷ rest) - number_of (a ∷ rest) - 1)))
    by_sign true e = (ltb-true _ _ e, refl)
    by_sign false e = (ltb-false _ _ e, omega (arith, complement_sum (a ∷ rest) 0 0 fits))

signed_only : (a : ℕ) (rest : List ℕ) (n : ℤ) → IsTwosComplement (a ∷ rest) n → n ≡ signed_of (a ∷ rest)
signed_only a rest (pos n) h = let low : ltb a 128 ≡ true = lt-ltb _ _ h.0 in rw low (ap pos (sym h.1))
signed_only a rest (negsuc n) h =
    let high : ltb a 128 ≡ false = le-ltb _ _ h.0 in
    let is : n ≡ 256 ^ length (a ∷ rest) - number_of (a ∷ rest) - 1 = omega (arith, h.1) in
    rw high (ap negsuc is)

pub integer_takes : (c : List ℕ) (n : ℤ) → IsBytes c → integer_at c ≡ Ok n → IsInteger c n
unfolding integer_at
integer_takes [] n fits e = absurd cc
integer_takes (a ∷ rest) n fits e =
    elim (chosen (ltb 8 (length (a ∷ rest))) (Err BadContents) (Ok (signed_of (a ∷ rest))) (Ok n) e) [
      | inl w ↦ absurd (cc w.1)
      | inr w ↦ (ltb-false _ _ w.0, subst (λ (m : ℤ). IsTwosComplement (a ∷ rest) m) (cc w.1) (signed_is a rest fits))
    ]

pub integer_again : (c : List ℕ) (n : ℤ) → IsInteger c n → integer_at c ≡ Ok n
unfolding integer_at
integer_again [] n h = absurd h
integer_again (a ∷ rest) n h =
    let few : ltb 8 (length (a ∷ rest)) ≡ false = le-ltb _ _ h.0 in
    rw few (ap (λ (m : ℤ). Ok m) (sym (signed_only a rest n h.1)))

pub integer_bad : (c : List ℕ) → IsErrOf (integer_at c) BadContents ↔ ((c ≡ []) ⊎ (8 < length c))
unfolding integer_at
integer_bad [] = (λ e. inl refl, λ h. refl)
integer_bad (a ∷ rest) = (from_error, to_error)
  where
    from_error : cond (ltb 8 (length (a ∷ rest))) (Err BadContents) (Ok (signed_of (a ∷ rest))) ≡ Err BadContents → ((a ∷ rest) ≡ []) ⊎ (8 < length (a ∷ rest))
    from_error e = elim (chosen (ltb 8 (length (a ∷ rest))) (Err BadContents) (Ok (signed_of (a ∷ rest))) (Err BadContents) e) [
      | inl w ↦ inr (ltb-true _ _ w.0)
      | inr w ↦ absurd (cc w.1)
    ]

    to_error : ((a ∷ rest) ≡ []) ⊎ (8 < length (a ∷ rest)) → cond (ltb 8 (length (a ∷ rest))) (Err BadContents) (Ok (signed_of (a ∷ rest))) ≡ Err BadContents
    to_error (inl h) = absurd cc
    to_error (inr h) = let many : ltb 8 (length (a ∷ rest)) ≡ true = lt-ltb _ _ h in rw many refl

only_bad : (c : List ℕ) (e : BerError) → integer_at c ≡ Err e → e ≡ BadContents
unfolding integer_at
only_bad [] e h = cc
only_bad (a ∷ rest) e h =
    elim (chosen (ltb 8 (length (a ∷ rest))) (Err BadContents) (Ok (signed_of (a ∷ rest))) (Err e) h) [
      | inl w ↦ cc w.1
      | inr w ↦ absurd (cc w.1)
    ]

pub integer_found : (c : List ℕ) (r : Result ℤ BerError) → IsBytes c → r ≡ integer_at c → IfOk r (IsInteger c)
integer_found c (Ok n) fits e = integer_takes c n fits (sym e)
integer_found c (Err d) fits e = tt

pub integer_no_other : (c : List ℕ) (r : Result ℤ BerError) → r ≡ integer_at c → IfErr r (λ e. e ≡ BadContents)
integer_no_other c (Ok n) e = tt
integer_no_other c (Err d) e = only_bad c d (sym e)

-- ---- truth values

pub boolean_takes : (c : List ℕ) (b : Bool) → boolean_at c ≡ Ok b → IsBoolean c b
boolean_takes [] b e = absurd cc
boolean_takes (a ∷ []) b e = cc
boolean_takes (a ∷ c ∷ rest) b e = absurd cc

pub boolean_again : (c : List ℕ) (b : Bool) → IsBoolean c b → boolean_at c ≡ Ok b
boolean_again [] b h = absurd h
boolean_again (a ∷ []) b h = ap (λ (x : Bool). Ok x) (sym h)
boolean_again (a ∷ c ∷ rest) b h = absurd h

pub boolean_bad : (c : List ℕ) → IsErrOf (boolean_at c) BadContents ↔ (length c ≢ 1)
boolean_bad [] = (λ e. λ one. absurd (omega arith), λ h. refl)
boolean_bad (a ∷ []) = (λ e. absurd cc, λ h. absurd (h refl))
boolean_bad (a ∷ c ∷ rest) = (λ e. λ one. absurd (omega arith), λ h. refl)

only_bad_truth : (c : List ℕ) (e : BerError) → boolean_at c ≡ Err e → e ≡ BadContents
only_bad_truth [] e h = cc
only_bad_truth (a ∷ []) e h = absurd cc
only_bad_truth (a ∷ c ∷ rest) e h = cc

pub boolean_found : (c : List ℕ) (r : Result Bool BerError) → r ≡ boolean_at c → IfOk r (IsBoolean c)
boolean_found c (Ok b) e = boolean_takes c b (sym e)
boolean_found c (Err d) e = tt

pub boolean_no_other : (c : List ℕ) (r : Result Bool BerError) → r ≡ boolean_at c → IfErr r (λ e. e ≡ BadContents)
boolean_no_other c (Ok b) e = tt
boolean_no_other c (Err d) e = only_bad_truth c d (sym e)

-- ---- bit strings

pub bits_takes : (c : List ℕ) (x : ℕ × List ℕ) → bits_at c ≡ Ok x → IsBits c x.0 x.1
bits_takes [] x e = absurd cc
bits_takes (u ∷ []) x e =
    elim (chosen (eqb u 0) (Ok (0, [])) (Err BadContents) (Ok x) e) [
      | inl w ↦ subst (λ (y : ℕ × List ℕ). IsBits (u ∷ []) y.0 y.1) (cc w.1) (eqb-true _ _ w.0, refl, refl)
      | inr w ↦ absurd (cc w.1)
    ]
bits_takes (u ∷ a ∷ rest) x e =
    elim (chosen (ltb 7 u) (Err BadContents) (Ok (u, a ∷ rest)) (Ok x) e) [
      | inl w ↦ absurd (cc w.1)
      | inr w ↦ subst (λ (y : ℕ × List ℕ). IsBits (u ∷ a ∷ rest) y.0 y.1) (cc w.1) (ltb-false _ _ w.0, refl, refl)
    ]

pub bits_again : (c : List ℕ) (unused : ℕ) (octets : List ℕ) → IsBits c unused octets → bits_at c ≡ Ok (unused, octets)
bits_again [] unused octets h = absurd h
bits_again (a ∷ []) unused octets h = let none : eqb a 0 ≡ true = eq-eqb _ _ h.0 in rw (none, h.1, h.2) refl
bits_again (a ∷ b ∷ rest) unused octets h = let few : ltb 7 a ≡ false = le-ltb _ _ h.0 in rw (few, h.1, h.2) refl

bits_refused : (c : List ℕ) (e : BerError) → bits_at c ≡ Err e → (e ≡ BadContents) × IsNoBits c
bits_refused [] e h = (cc, tt)
bits_refused (u ∷ []) e h =
    elim (chosen (eqb u 0) (Ok (0, [])) (Err BadContents) (Err e) h) [
      | inl w ↦ absurd (cc w.1)
      | inr w ↦ (cc w.1, inr (eqb-false _ _ w.0, refl))
    ]
bits_refused (u ∷ a ∷ rest) e h =
    elim (chosen (ltb 7 u) (Err BadContents) (Ok (u, a ∷ rest)) (Err e) h) [
      | inl w ↦ (cc w.1, inl (ltb-true _ _ w.0))
      | inr w ↦ absurd (cc w.1)
    ]

no_bits : (c : List ℕ) → IsNoBits c → bits_at c ≡ Err BadContents
no_bits [] h = refl
no_bits (u ∷ []) (inl high) = let some : eqb u 0 ≡ false = ne_eqb _ _ (λ e. absurd (omega arith)) in rw some refl
no_bits (u ∷ []) (inr h) = let some : eqb u 0 ≡ false = ne_eqb _ _ h.0 in rw some refl
no_bits (u ∷ a ∷ rest) (inl high) = let many : ltb 7 u ≡ true = lt-ltb _ _ high in rw many refl
no_bits (u ∷ a ∷ rest) (inr h) = absurd (cc h.1)

abbrev pub CutsBits : List ℕ → Result Bits BerError → Type 0
CutsBits c r = MatchResult r (λ b. bits_at c ≡ Ok (b.unused, b.octets.now)) (λ e. bits_at c ≡ Err e)

pub bits_found : (c : List ℕ) (r : Result Bits BerError) → CutsBits c r → IfOk r (λ b. IsBits c b.unused b.octets.now)
bits_found c (Ok b) h = bits_takes c (b.unused, b.octets.now) h
bits_found c (Err e) h = tt

pub bits_only : (c : List ℕ) (r : Result Bits BerError) (unused : ℕ) (octets : List ℕ) → IsBits c unused octets → CutsBits c r → IsOkAnd r (λ b. (b.unused ≡ unused) × (b.octets.now ≡ octets))
bits_only c (Ok b) unused octets is h =
    let same = ok_is (b.unused, b.octets.now) (unused, octets) (sym h ∙ bits_again c unused octets is) in
    (ap (λ (x : ℕ × List ℕ). x.0) same, ap (λ (x : ℕ × List ℕ). x.1) same)
bits_only c (Err e) unused octets is h = absurd (cc (h, bits_again c unused octets is))

pub bits_bad : (c : List ℕ) (r : Result Bits BerError) → CutsBits c r → IsErrOf r BadContents ↔ IsNoBits c
bits_bad c (Ok b) h = (λ e. absurd cc, λ why. absurd (cc (h, no_bits c why)))
bits_bad c (Err e) h = (λ is. (bits_refused c e h).1, λ why. cc (h, no_bits c why))

pub bits_no_other : (c : List ℕ) (r : Result Bits BerError) → CutsBits c r → IfErr r (λ e. e ≡ BadContents)
bits_no_other c (Ok b) h = tt
bits_no_other c (Err e) h = (bits_refused c e h).0

-- ---- one number

pub one_number : (c : List ℕ) (m n : ℤ) → IsInteger c m → IsInteger c n → m ≡ n
one_number [] m n first second = absurd first
one_number (a ∷ rest) m n first second = signed_only a rest m first.1 ∙ sym (signed_only a rest n second.1)
