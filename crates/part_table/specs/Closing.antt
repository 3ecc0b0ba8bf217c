-- A table is closed once all its passes are there and none holds a part (this profile's choice).
use Rattle.std.specs.Prelude.{◌≡◌, ℕ, ◌<◌, ◌⊎◌, List, [], ◌∷◌, Option, None, Some, length, slice_get}
use mathlib.Core.Option.{some}
use lib.ListN.{get_elem?}
use Rattle.atomic_table.specs.Table.{Me}
use Rattle.part_table.specs.declared.view.Account.{Account}
use Rattle.part_table.specs.declared.view.View.{View}
use Rattle.part_table.specs.History.{StartsWith, places_of, IsMade}
use Rattle.part_table.specs.Held.{held_at}
use Rattle.part_table.specs.Known.{Known, Opened}
use Rattle.part_table.specs.Lines.{slot_of}
use Rattle.part_table.specs.Rule.{IsIn}

-- it is one of these
abbrev pub IsTold : {X : Type 0} → List X → X → Type 0
IsTold [] h = ⊥
IsTold (t ∷ told) h = (t ≡ h) ⊎ IsTold told h

module _ {T E : Type 0} where
  -- the passes are all passes of the table, in any order, and none holds a part
  pub record AreAllIdle (table : Opened T) (passes : List (Known T E)) : Type 0 where
    pub count : length passes ≡ table.callers
    pub all : (c : ℕ) → c < table.callers → (i : ℕ) × (p : Known T E) × (slice_get passes i ≡ Some p) × (p.by ≡ c)
    pub each : (i : ℕ) (p : Known T E) → slice_get passes i ≡ Some p → (p.table ≡ table) × ((part : ℕ) → held_at p.taken part ≡ None)

  -- a history is the longest that the passes know: it begins with what each had seen, and one had seen all of it. Its places that name a caller are exactly the own places of that
  -- caller's pass, and each place names a caller of the table
  pub record IsLongest (may_make : ℕ → E → Type 0) (callers : ℕ) (passes : List (Known T E)) (history : List (ℕ × E)) : Type 0 where
    pub each : (i : ℕ) (p : Known T E) → slice_get passes i ≡ Some p → StartsWith history p.seen × (p.own ≡ places_of p.by history)
    pub known : (i : ℕ) × (p : Known T E) × (slice_get passes i ≡ Some p) × (p.seen ≡ history)
    pub made : IsMade callers may_make history

  -- ---- inside the crate: the seats of passes, joined into one

  abbrev pub account_of : Known T E → Account
  account_of p = record { number = p.by; own = p.own; left = p.left }

  -- the seat of a pass that holds nothing
  pub record IsSeatOf {S : Type 0} (p : Known T E) (m : Me S (View T E)) : Type 0 where
    pub slots : m.1 ≡ []
    pub account : m.0.callers ≡ account_of p ∷ []
    pub seen : m.0.seen ≡ p.seen
    pub empty : (part : ℕ) → held_at m.0.held part ≡ None

  -- the view knows what each pass had seen, and keeps its account
  abbrev pub KnowsAll : View T E → List (Known T E) → Type 0
  KnowsAll v [] = Unit {0}
  KnowsAll v (p ∷ passes) = (((v.seen ≡ p.seen) ⊎ IsTold v.told p.seen) × IsIn v.callers (account_of p)) × KnowsAll v passes

  -- one of the passes had seen just that
  abbrev pub OneSaw : List (ℕ × E) → List (Known T E) → Type 0
  OneSaw h [] = ⊥
  OneSaw h (p ∷ passes) = (p.seen ≡ h) ⊎ OneSaw h passes

  -- a seat into which those of passes were joined
  pub record HasJoined {S : Type 0} (m : Me S (View T E)) (passes : List (Known T E)) : Type 0 where
    pub slots : m.1 ≡ []
    pub empty : (part : ℕ) → held_at m.0.held part ≡ None
    pub all : KnowsAll m.0 passes
    pub longest : OneSaw m.0.seen passes

-- the slot of each of so many parts has its part
abbrev pub AreFull : {B : Type 0} → ℕ → List (Option B) → Type 0
AreFull {B} parts xs = (i : ℕ) → i < parts → (x : B) × (get_elem? xs (slot_of i) ≡ some (Some x))

-- these are the parts of so many slots
pub record AreOfSlots {B : Type 0} (parts : ℕ) (xs : List (Option B)) (ys : List B) : Type 0 where
  pub count : length ys ≡ parts
  pub each : (i : ℕ) (y : B) → slice_get ys i ≡ Some y → get_elem? xs (slot_of i) ≡ some (Some y)
