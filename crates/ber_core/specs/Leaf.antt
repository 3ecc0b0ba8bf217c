-- Numbers, truth values and bit strings.
use Rattle.std.specs.Prelude.{◌≡◌, ◌≢◌, ◌⊎◌, slice_index, ℕ, ◌+◌, ◌-◌, ◌^◌, ◌<◌, ◌≤◌, ℤ, pos, negsuc, Bool, not, List, [], ◌∷◌, length, map, Result, Ok, Err, nat_lt, ◌==◌, if◌then◌else◌}
use Rattle.ber_core.specs.declared.fault.BerError.{BerError}
use Rattle.ber_core.specs.declared.fault.BerError.TheVariants.{BadContents}
use Rattle.ber_core.specs.Element.{number_of}

-- each bit turned
abbrev pub complements : List ℕ → List ℕ
complements octets = map (λ b. 255 - b) octets

-- octets in two's complement: the number that they spell, less 256 to the power of their count from 80 on in front
-- (ITU-T X.690, 8.3.3)
abbrev pub signed_of : List ℕ → ℤ
signed_of [] = pos 0
signed_of (a ∷ rest) =
    if nat_lt a 128 then pos (number_of (a ∷ rest)) else negsuc (256 ^ length (a ∷ rest) - number_of (a ∷ rest) - 1)

-- one to eight octets, also more than needed (ITU-T X.690, 8.3; no more than eight: this profile's choice)
unfoldable pub integer_at : List ℕ → Result ℤ BerError
integer_at [] = Err BadContents
integer_at (a ∷ rest) = if nat_lt 8 (length (a ∷ rest)) then Err BadContents else Ok (signed_of (a ∷ rest))

-- one octet, which is 0 for FALSE (ITU-T X.690, 8.2)
abbrev pub boolean_at : List ℕ → Result Bool BerError
boolean_at (a ∷ []) = Ok (not (a == 0))
boolean_at _ = Err BadContents

-- how many bits of the last octet are unused, and the octets (ITU-T X.690, 8.6)
abbrev pub bits_at : List ℕ → Result (ℕ × List ℕ) BerError
bits_at [] = Err BadContents
bits_at (u ∷ []) = if u == 0 then Ok (0, []) else Err BadContents
bits_at (u ∷ a ∷ rest) = if nat_lt 7 u then Err BadContents else Ok (u, a ∷ rest)

-- what octets spell in two's complement: the number that they spell, less 256 to the power of their count where the
-- first bit is 1 (ITU-T X.690, 8.3.3)
abbrev pub IsTwosComplement : List ℕ → ℤ → Type 0
IsTwosComplement octets (pos n) = (slice_index octets 0 < 128) × (number_of octets ≡ n)
IsTwosComplement octets (negsuc n) = (128 ≤ slice_index octets 0) × (number_of octets + (n + 1) ≡ 256 ^ length octets)

-- contents of a number, in one to eight octets (ITU-T X.690, 8.3; no more than eight: this profile's choice)
abbrev pub IsInteger : List ℕ → ℤ → Type 0
IsInteger [] n = ⊥
IsInteger (a ∷ rest) n = (length (a ∷ rest) ≤ 8) × IsTwosComplement (a ∷ rest) n

-- contents of a truth value (ITU-T X.690, 8.2)
abbrev pub IsBoolean : List ℕ → Bool → Type 0
IsBoolean [] b = ⊥
IsBoolean (a ∷ []) b = b ≡ not (a == 0)
IsBoolean (a ∷ c ∷ rest) b = ⊥

-- contents of a bit string, and how many bits of its last octet are unused (ITU-T X.690, 8.6)
abbrev pub IsBits : List ℕ → ℕ → List ℕ → Type 0
IsBits [] unused octets = ⊥
IsBits (u ∷ []) unused octets = (u ≡ 0) × (unused ≡ 0) × (octets ≡ [])
IsBits (u ∷ a ∷ rest) unused octets = (u ≤ 7) × (unused ≡ u) × (octets ≡ a ∷ rest)

-- contents of no bit string: there is no first octet, it is above 7, or it is not 0 and nothing follows
-- (ITU-T X.690, 8.6.2)
abbrev pub IsNoBits : List ℕ → Type 0
IsNoBits [] = Unit {0}
IsNoBits (u ∷ rest) = (7 < u) ⊎ ((u ≢ 0) × (rest ≡ []))
