-- Words, numbers and pairs of digits, one further.
use Rattle.std.proofs.Common.{◌≡◌, ℕ, suc, zero, ◌+◌, ◌-◌, ◌*◌, ◌%◌, ◌<◌, ◌≤◌, ◌^◌, ◌==◌, ◌||◌, Bool, true, false, List, [], ◌∷◌, ◌++◌, length, take, drop, set, get_or, refl, sym, ap, ◌∙◌, subst, arith, append_assoc, bit_or, Some, None, nat_lt}
use Rattle.std.proofs.lemmas.Bool.Decides.{nat_tests}
use Rattle.std.proofs.lemmas.Grind.{common_steps, or_after_shift}
use Rattle.std.proofs.lemmas.Nat.{le_or_l, le_or_r}
use Rattle.std.proofs.lemmas.List.{drop_more, take_more, take_more_set, drop_all}
use Rattle.std.specs.Option.{option_map}
use Rattle.std.specs.declared.option.Option.{Option}
use Rattle.cell_record.specs.Words.{value_of, pairs_of, nibble_of, with_octet}

pub value_more : (line : List ℕ) (n d : ℕ) → n < length line → value_of (take (n + 1) line) ≡ value_of (take n line) * 10 + (get_or line n d - 48)
value_more line n d h = rw (take_more line n d h) (grind (arith, common_steps))

shifted : (octets : List ℕ) (o : ℕ) (rest : Option (List ℕ)) → option_map (λ os. octets ++ os) (option_map (λ os. o ∷ os) rest) ≡ option_map (λ os. (octets ++ o ∷ []) ++ os) rest
shifted octets o None = refl
shifted octets o (Some os) = ap Some (sym (append_assoc octets (o ∷ []) os))

spaced : (a : ℕ) (rest : List ℕ) → (a == 32) ≡ true → pairs_of (a ∷ rest) ≡ pairs_of rest
spaced a [] s = rw s refl
spaced a (b ∷ rest) s = rw s refl

both : (high low : ℕ) (rest : Option (List ℕ)) → (nat_lt 15 high || nat_lt 15 low) ≡ false → with_octet high low rest ≡ option_map (λ os. (high * 16 + low) ∷ os) rest
both high low None h = refl
both high low (Some os) h = rw h refl

neither : (high low : ℕ) (rest : Option (List ℕ)) → (nat_lt 15 high || nat_lt 15 low) ≡ true → with_octet high low rest ≡ None
neither high low None h = refl
neither high low (Some os) h = rw h refl

-- one pair more
pub pair_more : (text : List ℕ) (n d : ℕ) (octets : List ℕ) → n + 1 < length text → (get_or text n d == 32) ≡ false → (nat_lt 15 (nibble_of (get_or text n d)) || nat_lt 15 (nibble_of (get_or text (n + 1) d))) ≡ false
    → option_map (λ os. octets ++ os) (pairs_of (drop n text)) ≡ option_map (λ os. (octets ++ (nibble_of (get_or text n d) * 16 + nibble_of (get_or text (n + 1) d)) ∷ []) ++ os) (pairs_of (drop (n + 2) text))
pair_more text n d octets h s a =
    let two : n + 1 + 1 ≡ n + 2 = omega arith in
    let high = nibble_of (get_or text n d) in
    let low = nibble_of (get_or text (n + 1) d) in
    rw (drop_more text n d (omega arith), drop_more text (n + 1) d h, two, s, both high low (pairs_of (drop (n + 2) text)) a) (shifted octets (high * 16 + low) (pairs_of (drop (n + 2) text)))

pub space_more : (text : List ℕ) (n d : ℕ) → n < length text → (get_or text n d == 32) ≡ true → pairs_of (drop n text) ≡ pairs_of (drop (n + 1) text)
space_more text n d h s = rw (drop_more text n d h) (spaced (get_or text n d) (drop (n + 1) text) s)

-- a pair that is broken
pub pair_short : (text : List ℕ) (n d : ℕ) → n < length text → length text ≤ n + 1 → (get_or text n d == 32) ≡ false → pairs_of (drop n text) ≡ None
pair_short text n d h e s = rw (drop_more text n d h, drop_all (n + 1) text e, s) refl

pub pair_broken : (text : List ℕ) (n d : ℕ) → n + 1 < length text → (get_or text n d == 32) ≡ false → (nat_lt 15 (nibble_of (get_or text n d)) || nat_lt 15 (nibble_of (get_or text (n + 1) d))) ≡ true → pairs_of (drop n text) ≡ None
pair_broken text n d h s a =
    let two : n + 1 + 1 ≡ n + 2 = omega arith in
    rw (drop_more text n d (omega arith), drop_more text (n + 1) d h, two, s) (neither (nibble_of (get_or text n d)) (nibble_of (get_or text (n + 1) d)) (pairs_of (drop (n + 2) text)) a)

pub small : (n v : ℕ) → n < 9 → v < 10 ^ n → v < 100000000
small zero v h p = omega (arith, p)
small (suc zero) v h p = omega (arith, p)
small (suc (suc zero)) v h p = omega (arith, p)
small (suc (suc (suc zero))) v h p = omega (arith, p)
small (suc (suc (suc (suc zero)))) v h p = omega (arith, p)
small (suc (suc (suc (suc (suc zero))))) v h p = omega (arith, p)
small (suc (suc (suc (suc (suc (suc zero)))))) v h p = omega (arith, p)
small (suc (suc (suc (suc (suc (suc (suc zero))))))) v h p = omega (arith, p)
small (suc (suc (suc (suc (suc (suc (suc (suc zero)))))))) v h p = omega (arith, p)
small (suc (suc (suc (suc (suc (suc (suc (suc (suc n))))))))) v h p = absurd (omega (arith, h))

-- the same, by the values of the two digits
pub broken_by : (a b high low : ℕ) (is : Bool) → high ≡ nibble_of a → low ≡ nibble_of b → is ≡ (nat_lt 15 high || nat_lt 15 low) → (nat_lt 15 (nibble_of a) || nat_lt 15 (nibble_of b)) ≡ is
broken_by a b high low is h l e = sym (e ∙ ap (λ (n : ℕ). nat_lt 15 n || nat_lt 15 low) h ∙ ap (λ (n : ℕ). nat_lt 15 (nibble_of a) || nat_lt 15 n) l)

pub put_pair : (a b high low : ℕ) (octets : List ℕ) → high ≡ nibble_of a → low ≡ nibble_of b → octets ++ (high * 16 + low) ∷ [] ≡ octets ++ (nibble_of a * 16 + nibble_of b) ∷ []
put_pair a b high low octets h l = ap (λ (n : ℕ). octets ++ (n * 16 + low) ∷ []) h ∙ ap (λ (n : ℕ). octets ++ (nibble_of a * 16 + n) ∷ []) l

pub is_none : (part whole : Option (List ℕ)) (octets : List ℕ) → part ≡ None → option_map (λ os. octets ++ os) part ≡ whole → None ≡ whole
is_none part whole octets e h = ap (option_map (λ os. octets ++ os)) (sym e) ∙ h

-- ---- pairs without spaces

no_space : (b : ℕ) → nibble_of b ≤ 15 → (b == 32) ≡ false
no_space b h = by_test (b == 32) refl
  where
    by_test : (t : Bool) → (b == 32) ≡ t → (b == 32) ≡ false
    by_test false e = e
    by_test true e =
        let same : b ≡ 32 = grind (arith, nat_tests, e) in
        let much : 255 ≤ 15 = subst (λ (n : ℕ). nibble_of n ≤ 15) same h in
        absurd (omega (arith, much))

both_small : (a b : ℕ) → a ≤ 15 → b ≤ 15 → (nat_lt 15 a || nat_lt 15 b) ≡ false
both_small a b h g = grind (arith, nat_tests, h, g)

pub decode_more : (text to : List ℕ) (i seen high low d : ℕ) (whole : Option (List ℕ)) → 2 * i + 1 < length text → i < length to → high ≡ nibble_of (get_or text (2 * i) d) → low ≡ nibble_of (get_or text (2 * i + 1) d)
    → (seen < 16 → option_map (λ os. take i to ++ os) (pairs_of (drop (2 * i) text)) ≡ whole) → bit_or seen (bit_or high low) < 16
    → option_map (λ os. take (i + 1) (set to i (bit_or (high * 16 % 256) low)) ++ os) (pairs_of (drop (2 * (i + 1)) text)) ≡ whole
decode_more text to i seen high low d whole l m h g before small =
    let n = bit_or high low in
    let seen_small : seen < 16 = omega (arith, small, le_or_l seen n) in
    let n_small : n < 16 = omega (arith, small, le_or_r seen n) in
    let high_small : high ≤ 15 = omega (arith, n_small, le_or_l high low) in
    let low_small : low ≤ 15 = omega (arith, n_small, le_or_r high low) in
    let a = get_or text (2 * i) d in
    let b = get_or text (2 * i + 1) d in
    let whole_pair : (nat_lt 15 (nibble_of a) || nat_lt 15 (nibble_of b)) ≡ false = both_small (nibble_of a) (nibble_of b) (omega (arith, high_small, h)) (omega (arith, low_small, g)) in
    let octet : bit_or (high * 16 % 256) low ≡ nibble_of a * 16 + nibble_of b = or_after_shift high 16 256 low refl (omega (arith, low_small)) (omega (arith, high_small)) ∙ ap (λ (k : ℕ). k * 16 + low) h ∙ ap (λ (k : ℕ). nibble_of a * 16 + k) g in
    let next : 2 * (i + 1) ≡ 2 * i + 2 = omega arith in
    ap (λ (k : ℕ). option_map (λ os. take (i + 1) (set to i (bit_or (high * 16 % 256) low)) ++ os) (pairs_of (drop k text))) next
    ∙ ap (λ (items : List ℕ). option_map (λ os. items ++ os) (pairs_of (drop (2 * i + 2) text))) (take_more_set to i (bit_or (high * 16 % 256) low) m ∙ ap (λ (o : ℕ). take i to ++ o ∷ []) octet)
    ∙ sym (pair_more text (2 * i) d (take i to) l (no_space a (omega (arith, high_small, h))) whole_pair)
    ∙ before seen_small
