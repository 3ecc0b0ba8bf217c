-- Where a name stands among names in order of octets.
use Rattle.std.specs.Prelude.{◌≡◌, ℕ, ◌≤◌, Bool, true, false, List, length}
use Rattle.std.specs.List.Sorted.{IsPartitionPoint}
use Rattle.std.specs.Ordering.{is_le, is_lt}
use Rattle.mms_types.specs.Order.{name_order}

-- the other name comes before this one
abbrev pub is_before : List ℕ → List ℕ → Bool
is_before name other = is_lt (name_order other name)

-- or is it
abbrev pub is_up_to : List ℕ → List ℕ → Bool
is_up_to name other = is_le (name_order other name)

-- so many names stand first that come before it, and no others do
abbrev pub AreBefore : List ℕ → List (List ℕ) → ℕ → Type 0
AreBefore name names count = (count ≤ length names) × IsPartitionPoint (λ y. is_before name y ≡ true) (λ y. is_before name y ≡ false) names count

-- so many stand first that come before it or are it, and no others do
abbrev pub AreUpTo : List ℕ → List (List ℕ) → ℕ → Type 0
AreUpTo name names count = (count ≤ length names) × IsPartitionPoint (λ y. is_up_to name y ≡ true) (λ y. is_up_to name y ≡ false) names count
