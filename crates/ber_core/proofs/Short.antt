-- Elements whose identifier and length have one octet each.
use Rattle.std.proofs.Common.{◌≡◌, ℕ, ◌+◌, ◌<◌, pos, List, [], ◌∷◌, ◌++◌, length, take, drop, refl, sym, ap, ◌∙◌, arith}
use Rattle.std.proofs.lemmas.Bool.{lt-ltb}
use Rattle.ber_core.specs.declared.element.Tag.{Tag}
use Rattle.ber_core.specs.Element.{head_of}
use Rattle.ber_core.specs.Spelling.{identifier_octets, digits, length_octets, integer_octets, element_octets}

identifier : (t : Tag) → t.number < 31 → identifier_octets t ≡ (head_of t + t.number) ∷ []
unfolding identifier_octets
identifier t low = rw (lt-ltb _ _ low) refl

size : (n : ℕ) → n < 128 → length_octets n ≡ n ∷ []
unfolding length_octets
size n low = rw (lt-ltb _ _ low) refl

digit : (n : ℕ) → n < 128 → digits 128 8 n ≡ n ∷ []
unfolding digits
digit n low = rw (lt-ltb _ _ low) refl

-- an element of a short tag and short contents
pub element : (t : Tag) (c : List ℕ) → t.number < 31 → length c < 128 → element_octets t c ≡ (head_of t + t.number) ∷ length c ∷ c
unfolding element_octets
element t c low short = rw (identifier t low, size (length c) short) refl

-- the element of a number from 0 to 127
pub small_number : (t : Tag) (n : ℕ) → t.number < 31 → n < 128 → element_octets t (integer_octets (pos n)) ≡ (head_of t + t.number) ∷ 1 ∷ n ∷ []
small_number t n low short = ap (element_octets t) (digit n short) ∙ element t (n ∷ []) low (omega arith)

-- an identifier and a length put before the contents
pub enclosed_short : (old new : List ℕ) (t : Tag) (since a n : ℕ) → t.number < 31 → n < 128 → a ≡ head_of t + t.number → n ≡ length (drop since old)
    → new ≡ take since old ++ a ∷ n ∷ drop since old
    → new ≡ take since old ++ element_octets t (drop since old)
enclosed_short old new t since a n low short is_first is_size put =
    put
    ∙ ap (λ (k : ℕ). take since old ++ k ∷ n ∷ drop since old) is_first
    ∙ ap (λ (k : ℕ). take since old ++ (head_of t + t.number) ∷ k ∷ drop since old) is_size
    ∙ ap (λ (s : List ℕ). take since old ++ s) (sym (element t (drop since old) low (omega arith)))
