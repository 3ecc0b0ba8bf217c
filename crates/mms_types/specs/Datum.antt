-- What a value of a variable is (ISO 9506-2, Data).
use Rattle.std.specs.Prelude.{ℕ, ◌+◌, ℤ, Bool, List, [], ◌∷◌, max}

mutual
  pub data Datum : Type 0 where
    array : Row → Datum
    structure : Row → Datum
    boolean : Bool → Datum
    -- how many bits of the last octet are unused, and the octets
    bits : ℕ → List ℕ → Datum
    integer : ℤ → Datum
    unsigned : ℕ → Datum
    floating : List ℕ → Datum
    octets : List ℕ → Datum
    visible : List ℕ → Datum
    time : List ℕ → Datum

  -- the parts of an array or a structure, in their order
  pub data Row : Type 0 where
    no_part : Row
    part : Datum → Row → Row

abbrev pub row : List Datum → Row
row [] = no_part
row (x ∷ xs) = part x (row xs)

-- How deep a value nests: a simple one 0, and an array or a structure one more than its deepest part.
abbrev mutual
  pub depth : Datum → ℕ
  depth (array r) = deepest r + 1
  depth (structure r) = deepest r + 1
  depth x = 0

  pub deepest : Row → ℕ
  deepest no_part = 0
  deepest (part x r) = max (depth x) (deepest r)
