-- The segments of a domain (ISO 9506-1, domain content).
use Rattle.std.specs.Prelude.{ℕ, List, drop, length, sum_by, take}
use Rattle.std.specs.List.{concat}

-- the most octets of a domain (this profile's limit)
abbrev pub most_octets : ℕ
most_octets = 1048576

-- how many octets are in the segments
abbrev pub octets_in : List (List ℕ) → ℕ
octets_in segments = sum_by length segments

-- of the segments joined, at most so many octets from that one on
abbrev pub piece : ℕ → ℕ → List (List ℕ) → List ℕ
piece from most segments = take most (drop from (concat segments))
