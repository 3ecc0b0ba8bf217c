-- Events at their places in a history: the words of clauses inside the crate.
use Rattle.std.specs.Prelude.{◌≡◌, ◌≤◌, ◌⊎◌, ℕ, ◌+◌, ◌-◌, ◌==◌, if◌then◌else◌, List, [], ◌∷◌, length}
use Rattle.std.specs.Prelude.{Option, Some, None, slice_get}
use Rattle.part_table.specs.History.{IsMade}
use Rattle.mms_types.specs.declared.event.CellEvent.{CellEvent}
use Rattle.mms_device.specs.Making.{MayMake}

-- the places of events that were served, each with its event
abbrev pub Log : Type 0
Log = List (ℕ × CellEvent)

-- it is one of these
abbrev pub Has : {X : Type 0} → List X → X → Type 0
Has [] x = ⊥
Has (y ∷ ys) x = (y ≡ x) ⊎ Has ys x

module _ {E : Type 0} where
  -- the events of a caller with their places, where the first event has the place at
  abbrev pub placed_of : ℕ → ℕ → List (ℕ × E) → List (ℕ × E)
  placed_of at caller [] = []
  placed_of at caller (made ∷ history) =
      if made.0 == caller then (at, made.1) ∷ placed_of (at + 1) caller history
      else placed_of (at + 1) caller history

  -- the event stands at its place among these, the first of which has the place first
  abbrev pub Stands : ℕ → List E → ℕ × E → Type 0
  Stands first events placed =
      (first ≤ placed.0) × (slice_get events (placed.0 - first) ≡ Some placed.1)

  -- the event of that index lies in its slot
  abbrev pub IsLaid : List (Option E) → List E → ℕ → Type 0
  IsLaid slots events index =
      (event : E) → slice_get events index ≡ Some event → slice_get slots index ≡ Some (Some event)

  -- those that are there
  abbrev pub filled : List (Option E) → List E
  filled [] = []
  filled (None ∷ slots) = filled slots
  filled (Some event ∷ slots) = event ∷ filled slots

-- each event of a log stands at its place among these
abbrev pub AllStand : ℕ → List CellEvent → Log → Type 0
AllStand first events log = (q : ℕ × CellEvent) → Has log q → Stands first events q

-- the event of that index, if there is one, is in the log with its place
abbrev pub IsLogged : ℕ → List CellEvent → Log → ℕ → Type 0
IsLogged first events log index =
    (event : CellEvent) → slice_get events index ≡ Some event → Has log (first + index, event)

-- of a body that begins at a place: each actor was served just the events that it has there, at
-- their places
pub record IsServedBy (first : ℕ) (logs : List Log) (body : List (ℕ × CellEvent)) : Type 0 where
  pub made : IsMade (length logs) MayMake body
  pub served : (actor : ℕ) (log : Log) → slice_get logs actor ≡ Some log
      → log ≡ placed_of first actor body
