-- What lies before a cursor.
use Rattle.std.specs.Prelude.{ℕ, List}
use Rattle.ber_core.specs.declared.element.Lengths.{Lengths}

-- which forms of lengths are read, and the octets that are left
pub record Ahead : Type 0 where
  pub lengths : Lengths
  pub octets : List ℕ

abbrev pub ahead : Lengths → List ℕ → Ahead
ahead lengths octets = record { lengths = lengths; octets = octets }
