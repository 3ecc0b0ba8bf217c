-- The places of a table's rows in order of their names.
use Rattle.std.specs.Prelude.{◌≡◌, ℕ, zero, suc, ◌+◌, Bool, true, false, not, List, [], drop, filter, get_or, if◌then◌else◌, length, map, slice_get, sum_by, take, Option, None, Some}
use Rattle.std.specs.List.{AllByRecursion}
use Rattle.std.specs.List.Sorted.{IsStrictlySortedBy}
use Rattle.std.specs.Ordering.{match_ordering}
use Rattle.mms_types.specs.declared.key.Key.{Key}
use Rattle.mms_types.specs.declared.key.Scope.{Scope}
use Rattle.mms_types.specs.declared.key.Scope.TheVariants.{Vmd}
use Rattle.mms_types.specs.Order.{key_order, scope_order}
use Rattle.object_names.specs.Listing.{comes_after}

-- the key at a place
abbrev pub key_at : List Key → ℕ → Key
key_at keys place = get_or keys place (record { scope = Vmd; item = [] })

-- the sum over the numbers below one
abbrev pub sum_below : (ℕ → ℕ) → ℕ → ℕ
sum_below f zero = 0
sum_below f (suc n) = f 0 + sum_below (λ i. f (suc i)) n

-- each place stands once among them, and the keys at these ascend
pub record IsIndexOf (keys : List Key) (places : List ℕ) : Type 0 where
  pub each : (f : ℕ → ℕ) → sum_by f places ≡ sum_below f (length keys)
  pub ascend : IsStrictlySortedBy key_order (map (key_at keys) places)

-- the key stands in front of the names of the scope that come after that one
abbrev pub is_front : Scope → Option (List ℕ) → Key → Bool
is_front scope after key = match_ordering (scope_order key.scope scope) true (not (comes_after after key.item)) false

-- so does the key at that place
abbrev pub is_front_at : (Key → Bool) → Option Key → Bool
is_front_at front None = false
is_front_at front (Some key) = front key

-- the first so many have a property, and the others don't
pub record IsSplit {X : Type 0} (has : X → Bool) (xs : List X) (n : ℕ) : Type 0 where
  pub front : AllByRecursion (λ x. has x ≡ true) (take n xs)
  pub rest : AllByRecursion (λ x. has x ≡ false) (drop n xs)

-- each row that stays has the number of rows that stay up to it, and the others have 0
abbrev pub AreRanks : {X : Type 0} → (X → Bool) → List X → List ℕ → Type 0
AreRanks {X} stays rows ranks = (place : ℕ) (row : X) → slice_get rows place ≡ Some row
    → get_or ranks place 0 ≡ (if stays row then length (filter stays (take (suc place) rows)) else 0)
