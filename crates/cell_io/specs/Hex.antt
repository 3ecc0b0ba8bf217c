-- Octets as hexadecimal digits in upper case, two digits an octet, the high one first.
use Rattle.std.specs.Prelude.{ℕ, ◌+◌, ◌/◌, ◌%◌, cond, nat_lt, List, [], ◌∷◌}
use Rattle.std.specs.List.{flat_map}

-- the digit of a number below 16: '0' to '9', 'A' to 'F'
abbrev pub upper_digit : ℕ → ℕ
upper_digit n = cond (nat_lt n 10) (48 + n) (55 + n)

-- the two digits of an octet
abbrev pub pair_of : ℕ → List ℕ
pair_of octet = upper_digit (octet / 16) ∷ upper_digit (octet % 16) ∷ []

-- the digits of all the octets, in order
abbrev pub upper : List ℕ → List ℕ
upper octets = flat_map pair_of octets
