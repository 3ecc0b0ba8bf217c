-- An example: an object whose parts are numbers.
use Rattle.std.specs.Prelude.{◌≡◌, ℕ, Option, Some, List, unwrap_or}
use Rattle.part_table.specs.Held.{held_at}

-- the number at a place, or 0 where it isn't held
abbrev pub number_at : List (Option ℕ) → ℕ → ℕ
number_at hand place = unwrap_or (held_at hand place) 0

abbrev pub IsHeld : List (Option ℕ) → ℕ → Type 0
IsHeld hand place = held_at hand place ≡ Some (number_at hand place)
