-- What contents mean: a value, without the octets that say it.
use Rattle.std.specs.Prelude.{ℕ, ℤ, Bool, List, [], ◌∷◌, Option, Some, None}

mutual
  -- a value of any form
  pub data Value : Type 0 where
    nothing : Value
    truth : Bool → Value
    number : ℤ → Value
    -- how many bits of the last octet are unused, and the octets, whose unused bits are 0
    bits : ℕ → List ℕ → Value
    text : List ℕ → Value
    -- the number of the alternative, and its value
    chosen : ℕ → Value → Value
    parts : Slots → Value

  -- what stands in the place of a component
  pub data Slot : Type 0 where
    missing : Slot
    given : Value → Slot

  pub data Slots : Type 0 where
    done : Slots
    slot : Slot → Slots → Slots

-- a component that may be missing
abbrev pub optionally : {X : Type 0} → (X → Value) → Option X → Slot
optionally f None = missing
optionally f (Some x) = given (f x)

-- the members of a list
abbrev pub all_of : List Value → Slots
all_of [] = done
all_of (v ∷ vs) = slot (given v) (all_of vs)
