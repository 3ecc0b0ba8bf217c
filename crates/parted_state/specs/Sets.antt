-- Sets of places, and the bits that hold one (this profile's choice).
use Rattle.std.specs.Prelude.{◌≡◌, ℕ, ◌/◌, ◌%◌, ◌==◌, Bool, List, filter, slice_index}
use Rattle.std.specs.Int.{bit_at}
use Rattle.std.specs.List.{range_with_len}
use Rattle.std.specs.List.Sorted.{IsStrictlyIncreasing}
use Rattle.parted_state.specs.Cut.{is_in}

-- the set of some places: each of them once, in increasing order, and no others
pub record IsSetOf (set places : List ℕ) : Type 0 where
  pub increasing : IsStrictlyIncreasing set
  pub members : (place : ℕ) → is_in set place ≡ is_in places place

-- a number is in the set that words of 64 bits hold
abbrev pub is_bit : List ℕ → ℕ → Bool
is_bit words number = bit_at (slice_index words (number / 64)) (number % 64) == 1

-- the numbers below 256 that are in it, in increasing order
unfoldable pub numbers_of : List ℕ → List ℕ
numbers_of words = filter (is_bit words) (range_with_len 0 256)
