-- How the octets of a domain lie in memory: joined, in blocks of one size, with the lengths of the segments beside.
use Rattle.std.specs.Prelude.{◌≡◌, ℕ, ◌-◌, ◌≤◌, Bool, false, Option, None, Some, List, [], ◌∷◌, ◌++◌, drop, length, take}
use Rattle.std.specs.Ordering.{is_lt}
use Rattle.mms_types.specs.Order.{name_order}

-- octets cut into segments of these lengths
abbrev pub cut : List ℕ → List ℕ → List (List ℕ)
cut [] octets = []
cut (n ∷ lengths) octets = take n octets ∷ cut lengths (drop n octets)

-- how many octets a block has room for
abbrev pub block_size : ℕ
block_size = 4096

-- each block is full
abbrev pub AreFull : List (List ℕ) → Type 0
AreFull [] = Unit {0}
AreFull (b ∷ bs) = (length b ≡ block_size) × AreFull bs

-- each block but the last is full
abbrev pub AreBlocks : List (List ℕ) → Type 0
AreBlocks [] = Unit {0}
AreBlocks (b ∷ []) = length b ≤ block_size
AreBlocks (b ∷ c ∷ bs) = (length b ≡ block_size) × AreBlocks (c ∷ bs)

-- how many octets the last block has room for: none where there is no block
abbrev pub room : List (List ℕ) → ℕ
room [] = 0
room (b ∷ []) = block_size - length b
room (b ∷ c ∷ bs) = room (c ∷ bs)

-- the last block with these octets at its end
abbrev pub filled : List ℕ → List (List ℕ) → List (List ℕ)
filled octets [] = []
filled octets (b ∷ []) = (b ++ octets) ∷ []
filled octets (b ∷ c ∷ bs) = b ∷ filled octets (c ∷ bs)

-- ---- names in order of octets

-- the other name, where there is one, comes before this one
abbrev pub comes_before : List ℕ → Option (List ℕ) → Bool
comes_before name None = false
comes_before name (Some other) = is_lt (name_order other name)
