-- No element, and no number, is spelled shorter.
use Rattle.std.proofs.Common.{◌≡◌, ℕ, zero, suc, ◌+◌, ◌*◌, ◌-◌, ◌/◌, ◌%◌, ◌^◌, ◌<◌, ◌≤◌, ℤ, pos, negsuc, Bool, true, false, cond, ltb, List, [], ◌∷◌, ◌++◌, length, sym, ap, subst, ◌∙◌, arith}
use Rattle.std.specs.List.{fold}
use Rattle.std.proofs.lemmas.Bool.{lt-ltb, le-ltb}
use Rattle.std.proofs.lemmas.List.{length-append}
use Rattle.std.proofs.lemmas.Grind.{pow_more}
use Rattle.std.proofs.Math.Nat.{mul-le-mul_right}
use Rattle.ber_core.specs.declared.element.Tag.{Tag}
use Rattle.ber_core.specs.Part.{Part}
use Rattle.ber_core.specs.Element.{IsIdentifier, Announces, IsDefiniteElement, number_of}
use Rattle.ber_core.specs.Leaf.{complements, IsInteger}
use Rattle.ber_core.specs.Spelling.{identifier_octets, digits, length_octets, integer_octets, element_octets}
use Rattle.ber_core.proofs.Definites.{IsBytes, IsBytes-rest}
use Rattle.ber_core.proofs.Leaves.{complement_sum}
use Rattle.ber_core.proofs.Written.{length-complements}

-- octets that follow a number n spell less than the next number in front of as many octets
number_below : (octets : List ℕ) (n : ℕ) → IsBytes octets → fold (λ k b. 256 * k + b) n octets < (n + 1) * 256 ^ length octets
number_below [] n fits = omega arith
number_below (b ∷ octets) n fits =
    let small : b < 256 = fits 0 in
    raised (256 * n + b + 1) (n + 1) (length octets) (fold (λ k c. 256 * k + c) (256 * n + b) octets) (omega arith) (number_below octets (256 * n + b) (IsBytes-rest b octets fits))
  where
    next : (k : ℕ) → suc k ≡ k + 1
    next k = omega arith

    power : (k : ℕ) → 256 ^ suc k ≡ 256 ^ k * 256
    power k = ap (λ (i : ℕ). 256 ^ i) (next k) ∙ pow_more 256 k

    turned : (y p : ℕ) → y * 256 * p ≡ y * (p * 256)
    turned y p = grind arith

    scaled : (x y p : ℕ) → x ≤ y * 256 → x * p ≤ y * (p * 256)
    scaled x y p le = subst (λ (m : ℕ). x * p ≤ m) (turned y p) (mul-le-mul_right p le)

    raised : (x y k z : ℕ) → x ≤ y * 256 → z < x * 256 ^ k → z < y * 256 ^ suc k
    raised x y k z le lt = rw (power k) (omega (arith, lt, scaled x y (256 ^ k) le))

-- a number below the bound's share of so many digits has no more of them
digits_width : (bound k j n : ℕ) → j < k → n < bound * 256 ^ j → length (digits bound k n) ≤ j + 1
unfolding digits
digits_width bound zero j n within lt = omega arith
digits_width bound (suc k) zero n within lt =
    let low : ltb n bound ≡ true = lt-ltb _ _ (omega arith) in
    rw low (omega arith)
digits_width bound (suc k) (suc j) n within lt = by_test (ltb n bound) (digits_width bound k j (n / 256) (omega arith) (divided (bound * 256 ^ j) n (subst (λ (m : ℕ). n < m) (regroup bound j) lt)))
  where
    divided : (m i : ℕ) → i < m * 256 → i / 256 < m
    divided m i less = omega arith

    next : (i : ℕ) → suc i ≡ i + 1
    next i = omega arith

    regroup : (b i : ℕ) → b * 256 ^ suc i ≡ b * 256 ^ i * 256
    regroup b i = ap (λ (m : ℕ). b * m) (ap (λ (m : ℕ). 256 ^ m) (next i) ∙ pow_more 256 i) ∙ omega arith

    by_test : (b : Bool) → length (digits bound k (n / 256)) ≤ j + 1 → length (cond b (n ∷ []) (digits bound k (n / 256) ++ (n % 256) ∷ [])) ≤ suc j + 1
    by_test true less = omega arith
    by_test false less = omega (arith, length-append (digits bound k (n / 256)) ((n % 256) ∷ []))

-- octets whose first is below the bound are no fewer than the digits of what they spell
digits_shortest : (bound a : ℕ) (rest : List ℕ) → IsBytes rest → a < bound → length rest < 8 → length (digits bound 8 (number_of (a ∷ rest))) ≤ length (a ∷ rest)
digits_shortest bound a rest fits low few =
    omega (arith, digits_width bound 8 (length rest) (number_of (a ∷ rest)) few (below (0 + a + 1) bound (256 ^ length rest) (number_of (a ∷ rest)) (omega arith) (number_below rest (0 + a) fits)))
  where
    below : (x y p z : ℕ) → x ≤ y → z < x * p → z < y * p
    below x y p z le lt = omega (arith, lt, mul-le-mul_right p le)

-- ---- numbers

IsBytes-complements : (octets : List ℕ) → IsBytes (complements octets)
IsBytes-complements [] i = omega arith
IsBytes-complements (b ∷ octets) zero = omega arith
IsBytes-complements (b ∷ octets) (suc i) = IsBytes-complements octets i

pub integer_shortest : (octets : List ℕ) (n : ℤ) → IsBytes octets → IsInteger octets n → length (integer_octets n) ≤ length octets
integer_shortest [] n fits h = absurd h
integer_shortest (a ∷ rest) (pos n) fits h =
    subst (λ (m : ℕ). length (digits 128 8 m) ≤ length (a ∷ rest)) h.1.1 (digits_shortest 128 a rest (IsBytes-rest a rest fits) h.1.0 (omega (arith, h.0)))
integer_shortest (a ∷ rest) (negsuc n) fits h =
    let few : length rest < 8 = omega (arith, h.0) in
    let high : 128 ≤ a = h.1.0 in
    let is : number_of (complements (a ∷ rest)) ≡ n = omega (arith, h.1.1, complement_sum (a ∷ rest) 0 0 fits) in
    let long : length (complements rest) ≡ length rest = length-complements rest in
    subst (λ (m : ℕ). length (complements (digits 128 8 m)) ≤ length (a ∷ rest)) is
    (omega (arith, length-complements (digits 128 8 (number_of (complements (a ∷ rest)))), digits_shortest 128 (255 - a) (complements rest) (IsBytes-complements rest) (omega arith) (omega arith)))

-- ---- elements

IsBytes-left : (xs ys : List ℕ) → IsBytes (xs ++ ys) → IsBytes xs
IsBytes-left [] ys fits i = omega arith
IsBytes-left (x ∷ xs) ys fits zero = fits 0
IsBytes-left (x ∷ xs) ys fits (suc i) = IsBytes-left xs ys (λ j. fits (suc j)) i

IsBytes-right : (xs ys : List ℕ) → IsBytes (xs ++ ys) → IsBytes ys
IsBytes-right [] ys fits i = fits i
IsBytes-right (x ∷ xs) ys fits i = IsBytes-right xs ys (λ j. fits (suc j)) i

identifier_shortest : (i : List ℕ) (t : Tag) → IsIdentifier i t → length (identifier_octets t) ≤ length i
unfolding identifier_octets
identifier_shortest [] t h = absurd h
identifier_shortest (a ∷ []) t h = let low : ltb t.number 31 ≡ true = lt-ltb _ _ h.1 in rw low (omega arith)
identifier_shortest (a ∷ b ∷ []) t h =
    let high : ltb t.number 31 ≡ false = le-ltb _ _ (omega (arith, h.2, h.4)) in
    let low : ltb t.number 128 ≡ true = lt-ltb _ _ (omega (arith, h.3, h.4)) in
    rw (high, low) (omega arith)
identifier_shortest (a ∷ b ∷ c ∷ []) t h =
    let high : ltb t.number 31 ≡ false = le-ltb _ _ (omega (arith, h.2, h.5)) in
    let large : ltb t.number 128 ≡ false = le-ltb _ _ (omega (arith, h.2, h.5)) in
    rw (high, large) (omega arith)
identifier_shortest (a ∷ b ∷ c ∷ d ∷ more) t h = absurd h

length_shortest : (l : List ℕ) (n : ℕ) → IsBytes l → Announces l n → length (length_octets n) ≤ length l
unfolding length_octets
length_shortest [] n fits h = absurd h
length_shortest (a ∷ []) n fits h = let low : ltb n 128 ≡ true = lt-ltb _ _ (omega (arith, h.0, h.1)) in rw low (omega arith)
length_shortest (a ∷ b ∷ more) n fits h = by_test (ltb n 128) (subst (λ (m : ℕ). length (digits 256 8 m) ≤ length (b ∷ more)) (sym h.3) (digits_shortest 256 b more (λ i. fits (suc (suc i))) (fits 1) (omega (arith, h.1, h.2))))
  where
    by_test : (t : Bool) → length (digits 256 8 n) ≤ length (b ∷ more) → length (cond t (n ∷ []) ((128 + length (digits 256 8 n)) ∷ digits 256 8 n)) ≤ length (a ∷ b ∷ more)
    by_test true less = omega arith
    by_test false less = omega arith

pub definite_shortest : (octets : List ℕ) (p : Part) → IsBytes octets → IsDefiniteElement octets p → length (element_octets p.tag p.contents) ≤ length octets
unfolding element_octets
definite_shortest octets p fits is =
    let whole : IsBytes (is.identifier ++ is.announced ++ p.contents) = subst IsBytes is.whole fits in
    let first = identifier_shortest is.identifier p.tag is.tag in
    let second = length_shortest is.announced (length p.contents) (IsBytes-right is.identifier is.announced (IsBytes-left (is.identifier ++ is.announced) p.contents whole)) is.size in
    omega (arith, first, second, ap length is.whole, length-append (is.identifier ++ is.announced) p.contents, length-append is.identifier is.announced, length-append (identifier_octets p.tag) (length_octets (length p.contents) ++ p.contents), length-append (length_octets (length p.contents)) p.contents)
