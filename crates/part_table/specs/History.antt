-- One history of the events of an object, each with the number of the caller who made it (this profile's choice).
use Rattle.std.specs.Prelude.{◌≡◌, ℕ, ◌+◌, ◌<◌, List, [], ◌∷◌, ◌++◌, ◌==◌, if◌then◌else◌}

-- all begins with front
abbrev pub StartsWith : {X : Type 0} → List X → List X → Type 0
StartsWith {X} all front = (rest : List X) × (all ≡ front ++ rest)

-- all begins with each of these
abbrev pub BeginsEach : {X : Type 0} → List X → List (List X) → Type 0
BeginsEach all [] = Unit {0}
BeginsEach all (front ∷ fronts) = StartsWith all front × BeginsEach all fronts

module _ {T E : Type 0} where
  -- the parts after a history, by the parts at its start
  abbrev pub replayed : (E → List T → List T) → List T → List (ℕ × E) → List T
  replayed step parts [] = parts
  replayed step parts (made ∷ history) = replayed step (step made.1 parts) history

module _ {E : Type 0} where
  -- the places that name a caller, where the first has the number at
  abbrev pub places_from : ℕ → ℕ → List (ℕ × E) → List ℕ
  places_from at caller [] = []
  places_from at caller (made ∷ history) = if made.0 == caller then at ∷ places_from (at + 1) caller history else places_from (at + 1) caller history

  -- the places of a history that name a caller, of which the first is 1
  abbrev pub places_of : ℕ → List (ℕ × E) → List ℕ
  places_of caller history = places_from 1 caller history

  -- the events of a history that a caller made, in order
  abbrev pub events_of : ℕ → List (ℕ × E) → List E
  events_of caller [] = []
  events_of caller (made ∷ history) = if made.0 == caller then made.1 ∷ events_of caller history else events_of caller history

  -- each place names a caller of a lower number, who may make its event
  abbrev pub IsMade : ℕ → (ℕ → E → Type 0) → List (ℕ × E) → Type 0
  IsMade callers may_make [] = Unit {0}
  IsMade callers may_make (made ∷ history) = (made.0 < callers) × may_make made.0 made.1 × IsMade callers may_make history
