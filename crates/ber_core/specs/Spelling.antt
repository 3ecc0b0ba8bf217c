-- The one output spelling of an element and of a number.
use Rattle.std.specs.Prelude.{ℕ, zero, suc, ◌+◌, ◌/◌, ◌%◌, ℤ, pos, negsuc, List, [], ◌∷◌, ◌++◌, length, nat_lt, if◌then◌else◌}
use Rattle.ber_core.specs.declared.element.Tag.{Tag}
use Rattle.ber_core.specs.Element.{head_of}
use Rattle.ber_core.specs.Leaf.{complements}

-- the shortest identifier (ITU-T X.690, 8.1.2)
unfoldable pub identifier_octets : Tag → List ℕ
identifier_octets t =
    if nat_lt t.number 31 then (head_of t + t.number) ∷ []
    else (if nat_lt t.number 128 then ((head_of t + 31) ∷ t.number ∷ [])
    else ((head_of t + 31) ∷ (128 + t.number / 128) ∷ (t.number % 128) ∷ []))

-- a number in base 256 by as few octets as serve, the most significant first, the first of them below the bound,
-- in no more than so many octets
unfoldable pub digits : ℕ → ℕ → ℕ → List ℕ
digits bound zero n = []
digits bound (suc k) n = if nat_lt n bound then n ∷ [] else digits bound k (n / 256) ++ (n % 256) ∷ []

-- the shortest length (ITU-T X.690, 8.1.3.4 and 8.1.3.5)
unfoldable pub length_octets : ℕ → List ℕ
length_octets n = if nat_lt n 128 then n ∷ [] else ((128 + length (digits 256 8 n)) ∷ digits 256 8 n)

-- the shortest two's complement (ITU-T X.690, 8.3.2)
abbrev pub integer_octets : ℤ → List ℕ
integer_octets (pos n) = digits 128 8 n
integer_octets (negsuc n) = complements (digits 128 8 n)

-- one element, with its length in the definite form (ITU-T X.690, 8.1.1)
unfoldable pub element_octets : Tag → List ℕ → List ℕ
element_octets t contents = identifier_octets t ++ (length_octets (length contents) ++ contents)
