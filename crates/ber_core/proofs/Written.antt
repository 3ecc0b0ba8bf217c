-- What the writer's steps append.
use Rattle.std.proofs.Common.{◌≡◌, ℕ, zero, suc, ◌+◌, ◌-◌, ◌/◌, ◌%◌, ◌<◌, ◌≤◌, ℤ, pos, negsuc, Bool, true, false, cond, ltb, List, [], ◌∷◌, ◌++◌, length, take, drop, refl, sym, ap, subst, ◌∙◌, append_assoc, arith}
use Rattle.std.proofs.lemmas.Bool.{lt-ltb}
use Rattle.std.proofs.lemmas.List.{length-append, map-append, take-append-drop, drop-drop}
use Rattle.ber_core.specs.declared.element.Tag.{Tag}
use Rattle.ber_core.specs.Leaf.{complements}
use Rattle.ber_core.specs.Spelling.{identifier_octets, digits, length_octets, integer_octets, element_octets}
use Rattle.ber_core.proofs.Numbers.{digits_step}

-- one more digit, complemented
pub complements_step : (k n : ℕ) → 0 < k → 128 ≤ n → complements (digits 128 k n) ≡ complements (digits 128 (k - 1) (n / 256)) ++ (255 - n % 256) ∷ []
complements_step k n some large = ap complements (digits_step 128 k n some large) ∙ map-append (λ b. 255 - b) (digits 128 (k - 1) (n / 256)) ((n % 256) ∷ [])

-- no more digits than allowed
pub digits_few : (bound k n : ℕ) → length (digits bound k n) ≤ k
unfolding digits
digits_few bound zero n = omega arith
digits_few bound (suc k) n = by_test (ltb n bound) (digits_few bound k (n / 256))
  where
    by_test : (b : Bool) → length (digits bound k (n / 256)) ≤ k → length (cond b (n ∷ []) (digits bound k (n / 256) ++ (n % 256) ∷ [])) ≤ suc k
    by_test true less = omega arith
    by_test false less = omega (arith, length-append (digits bound k (n / 256)) ((n % 256) ∷ []))

pub length-complements : (octets : List ℕ) → length (complements octets) ≡ length octets
length-complements [] = refl
length-complements (b ∷ octets) = ap suc (length-complements octets)

pub integer_few : (n : ℤ) → length (integer_octets n) ≤ 8
integer_few (pos n) = digits_few 128 8 n
integer_few (negsuc n) = omega (arith, length-complements (digits 128 8 n), digits_few 128 8 n)

short_element : (t : Tag) (c : List ℕ) → length c ≤ 8 → element_octets t c ≡ identifier_octets t ++ length c ∷ c
unfolding element_octets length_octets
short_element t c few = let low : ltb (length c) 128 ≡ true = lt-ltb _ _ (omega arith) in rw low refl

-- the element of a number
pub integer_element : (t : Tag) (n : ℤ) → element_octets t (integer_octets n) ≡ identifier_octets t ++ length (integer_octets n) ∷ integer_octets n
integer_element t n = short_element t (integer_octets n) (integer_few n)

-- one more digit is one more octet
pub digits_longer : (bound k n : ℕ) → 0 < k → bound ≤ n → length (digits bound k n) ≡ length (digits bound (k - 1) (n / 256)) + 1
digits_longer bound k n some large = ap length (digits_step bound k n some large) ∙ length-append (digits bound (k - 1) (n / 256)) ((n % 256) ∷ [])

-- octets that agree from a place on agree from a later one on
pub drop_later : (a b : ℕ) (xs ys : List ℕ) → a ≤ b → drop a xs ≡ drop a ys → drop b xs ≡ drop b ys
drop_later a b xs ys le e =
    let split : a + (b - a) ≡ b = omega arith in
    subst (λ (k : ℕ). drop k xs ≡ drop k ys) split (sym (drop-drop (b - a) a xs) ∙ ap (drop (b - a)) e ∙ drop-drop (b - a) a ys)

-- two runs of octets, written over what was there
pub written_over : (old mid new i l : List ℕ) (at next end : ℕ) → next ≤ end → end ≡ at + length i + length l
    → take next mid ≡ take at old ++ i → drop next mid ≡ drop next old → take end new ≡ take next mid ++ l → drop end new ≡ drop end mid
    → new ≡ take at old ++ (i ++ (l ++ drop (at + length i + length l) old))
written_over old mid new i l at next end le is first first_rest second second_rest =
    sym (take-append-drop end new)
    ∙ ap (λ (s : List ℕ). s ++ drop end new) (second ∙ ap (λ (s : List ℕ). s ++ l) first)
    ∙ ap (λ (s : List ℕ). take at old ++ i ++ l ++ s) (second_rest ∙ drop_later next end mid old le first_rest ∙ ap (λ (k : ℕ). drop k old) is)
    ∙ simp append_assoc

-- a header written into the gap before the contents
pub enclosed : (old mid new : List ℕ) (t : Tag) (since size more : ℕ) → size ≡ length (drop since old) → more ≡ length (identifier_octets t) + length (length_octets size)
    → take since mid ≡ take since old → drop (since + more) mid ≡ drop since old
    → new ≡ take since mid ++ (identifier_octets t ++ (length_octets size ++ drop (since + length (identifier_octets t) + length (length_octets size)) mid))
    → new ≡ take since old ++ element_octets t (drop since old)
unfolding element_octets
enclosed old mid new t since size more is wide front rest written =
    let place : since + length (identifier_octets t) + length (length_octets size) ≡ since + more = omega arith in
    written
    ∙ ap (λ (s : List ℕ). s ++ (identifier_octets t ++ (length_octets size ++ drop (since + length (identifier_octets t) + length (length_octets size)) mid))) front
    ∙ ap (λ (s : List ℕ). take since old ++ (identifier_octets t ++ (length_octets size ++ s))) (ap (λ (k : ℕ). drop k mid) place ∙ rest)
    ∙ ap (λ (n : ℕ). take since old ++ (identifier_octets t ++ (length_octets n ++ drop since old))) is
