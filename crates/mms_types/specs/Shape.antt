-- What a type of variables is (ISO 9506-2, TypeSpecification).
use Rattle.std.specs.Prelude.{ℕ, ◌+◌, ℤ, Bool, List, Option, max}

mutual
  pub data Shape : Type 0 where
    -- packed or not, how many elements, and their type
    array : Bool → ℕ → Shape → Shape
    -- packed or not, and the components
    structure : Bool → Fields → Shape
    boolean : Shape
    -- a length, or the greatest one as a number below 0
    bits : ℤ → Shape
    integer : ℕ → Shape
    unsigned : ℕ → Shape
    -- the widths of the format and of the exponent
    floating : ℕ → ℕ → Shape
    octets : ℤ → Shape
    visible : ℤ → Shape
    -- with the day or not
    time : Bool → Shape

  -- the components of a structure, each with its name where it has one
  pub data Fields : Type 0 where
    no_field : Fields
    field : Option (List ℕ) → Shape → Fields → Fields

-- How deep a type nests: a simple one 0, and an array or a structure one more than its deepest part.
abbrev mutual
  pub shape_depth : Shape → ℕ
  shape_depth (array packed n s) = shape_depth s + 1
  shape_depth (structure packed fs) = fields_depth fs + 1
  shape_depth s = 0

  pub fields_depth : Fields → ℕ
  fields_depth no_field = 0
  fields_depth (field name s fs) = max (shape_depth s) (fields_depth fs)
