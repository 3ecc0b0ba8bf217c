-- Which values are of a type (this profile's widths and lengths).
use Rattle.std.specs.Prelude.{ℕ, suc, ◌-◌, ◌*◌, ℤ, pos, negsuc, Bool, true, false, ◌&&◌, ◌==◌, if◌then◌else◌, nat_le, int_le, length}
use Rattle.mms_types.specs.Datum.{Datum, Row, array, structure, boolean, bits, integer, unsigned, floating, octets, visible, time, no_part, part}
use Rattle.mms_types.specs.Shape.{Shape, Fields, no_field, field}
use Rattle.mms_types.specs.Shape as shape

-- exactly so many where the number isn't negative, and else at most as many as its opposite
abbrev pub has_length : ℕ → ℤ → Bool
has_length k (pos n) = k == n
has_length k (negsuc n) = nat_le k (suc n)

abbrev pub is_between : ℤ → ℤ → ℤ → Bool
is_between low high n = int_le low n && int_le n high

-- the integers of a width
abbrev pub has_width : ℕ → ℤ → Bool
has_width w n =
    if w == 8 then is_between (negsuc 127) (pos 127) n else if w == 16 then is_between (negsuc 32767) (pos 32767) n
    else if w == 32 then is_between (negsuc 2147483647) (pos 2147483647) n else is_between (negsuc 9223372036854775807) (pos 9223372036854775807) n

-- the unsigned numbers of a width
abbrev pub has_unsigned_width : ℕ → ℕ → Bool
has_unsigned_width w n = if w == 8 then nat_le n 255 else if w == 16 then nat_le n 65535 else nat_le n 4294967295

-- how many octets a floating-point number of the format has: one for the width of its exponent and then the number
abbrev pub format_octets : ℕ → ℕ
format_octets w = if w == 32 then 5 else 9

abbrev pub time_octets : Bool → ℕ
time_octets dated = if dated then 6 else 4

abbrev pub parts_count : Row → ℕ
parts_count no_part = 0
parts_count (part x r) = suc (parts_count r)

abbrev mutual
  pub matches : Datum → Shape → Bool
  matches (array r) (shape.array packed n s) = (parts_count r == n) && all_match r s
  matches (structure r) (shape.structure packed fs) = each_matches r fs
  matches (boolean b) shape.boolean = true
  matches (bits u o) (shape.bits n) = has_length (8 * length o - u) n
  matches (integer n) (shape.integer w) = has_width w n
  matches (unsigned n) (shape.unsigned w) = has_unsigned_width w n
  matches (floating o) (shape.floating w e) = length o == format_octets w
  matches (octets o) (shape.octets n) = has_length (length o) n
  matches (visible o) (shape.visible n) = has_length (length o) n
  matches (time o) (shape.time dated) = length o == time_octets dated
  matches x s = false

  -- each part is of the type
  pub all_match : Row → Shape → Bool
  all_match no_part s = true
  all_match (part x r) s = matches x s && all_match r s

  -- part by part, and as many
  pub each_matches : Row → Fields → Bool
  each_matches no_part no_field = true
  each_matches (part x r) (field name s fs) = matches x s && each_matches r fs
  each_matches r fs = false
