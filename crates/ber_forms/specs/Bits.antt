-- Bit strings whose unused bits are 0, and those of named bits.
use Rattle.std.specs.Prelude.{ℕ, ◌+◌, ◌-◌, ◌*◌, ◌/◌, ◌^◌, List, [], ◌∷◌, ◌++◌, take, replicate}

-- the octets with the unused bits of the last one 0, whatever was sent there (ITU-T X.690, 8.6.2.4 and 11.2.1)
abbrev pub cleared : ℕ → List ℕ → List ℕ
cleared unused [] = []
cleared unused (a ∷ []) = (a / 2 ^ unused * 2 ^ unused) ∷ []
cleared unused (a ∷ b ∷ rest) = a ∷ cleared unused (b ∷ rest)

-- how many octets so many bits take, and how many bits of the last one they leave (ITU-T X.690, 8.6.2.2)
abbrev pub octets_for : ℕ → ℕ
octets_for n = (n + 7) / 8

abbrev pub unused_for : ℕ → ℕ
unused_for n = 8 * octets_for n - n

-- the first so many bits: a bit that isn't sent is 0, and further bits are disregarded (ITU-T X.680, 22.7)
unfoldable pub first_bits : ℕ → ℕ → List ℕ → List ℕ
first_bits n unused octets = cleared (unused_for n) (take (octets_for n) (cleared unused octets ++ replicate (octets_for n) 0))
