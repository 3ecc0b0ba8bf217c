-- A state that is cut into parts: what an event wants of them, and what its step makes of those that are held (this profile's choice).
use Rattle.std.specs.Prelude.{◌≡◌, ℕ, suc, Bool, true, false, not, ◌==◌, Option, Some, List, [], ◌∷◌, ◌++◌, is_some, unwrap_or, filter, map, length, slice_get, if◌then◌else◌}
use Rattle.std.specs.List.{list_any, list_all}
use Rattle.std.specs.Option.{option_map}
use Rattle.part_table.specs.Held.{held_at}

-- the place is one of these
abbrev pub is_in : List ℕ → ℕ → Bool
is_in places place = list_any (λ p. p == place) places

-- each of a list is changed by its place
abbrev pub with_places : {A : Type 0} → (ℕ → A → A) → List A → List A
with_places f [] = []
with_places f (x ∷ xs) = f 0 x ∷ with_places (λ i. f (suc i)) xs

module _ {P : Type 0} where
  abbrev pub is_held : List (Option P) → ℕ → Bool
  is_held hand place = is_some (held_at hand place)

  -- a part is held at each of the places
  abbrev pub are_held : List (Option P) → List ℕ → Bool
  are_held hand places = list_all (is_held hand) places

  -- those of the places at which no part is held
  abbrev pub missing : List (Option P) → List ℕ → List ℕ
  missing hand places = filter (λ place. not (is_held hand place)) places

  -- the part at a place as a list has it, where the place is one of these; any other part stays
  abbrev pub as_in : List ℕ → List P → ℕ → P → P
  as_in places new place part = if is_in places place then unwrap_or (slice_get new place) part else part

-- What an event wants of a state is a list of stages. Each stage names places, and is told by the parts of those before it.
module _ {S : Type 0} where
  -- the places that all stages name in a state
  abbrev pub wanted_of : List (S → List ℕ) → S → List ℕ
  wanted_of [] s = []
  wanted_of (stage ∷ stages) s = stage s ++ wanted_of stages s

module _ {S P : Type 0} (parts_of : S → List P) (state_in : List (Option P) → S) where
  -- the places that held parts show to be wanted: those of a stage, and once all of them are held, those of the next
  abbrev pub shown_of : List (S → List ℕ) → List (Option P) → List ℕ
  shown_of [] hand = []
  shown_of (stage ∷ stages) hand = stage (state_in hand) ++ (if are_held hand (stage (state_in hand)) then shown_of stages hand else [])

  -- what a step makes of held parts: those that are wanted become as the state has them after the step, and the others stay
  abbrev pub after_of : List (S → List ℕ) → (S → S) → List (Option P) → List (Option P)
  after_of stages step hand = with_places (λ place. option_map (as_in (wanted_of stages (state_in hand)) (parts_of (step (state_in hand))) place)) hand

  -- what a step makes of all parts
  abbrev pub all_after_of : List (S → List ℕ) → (S → S) → List P → List P
  all_after_of stages step parts = with_places (as_in (wanted_of stages (state_in (map Some parts))) (parts_of (step (state_in (map Some parts))))) parts

module _ {S P : Type 0} (parts_of : S → List P) (InOrder : S → Type 0) (state_in : List (Option P) → S) where
  -- Any list of places with parts in some of them shows a state, which is in order. What it has at a place is told by the part that is held there.
  pub record IsCut : Type 0 where
    pub as_many : (one other : List (Option P)) → length one ≡ length other → length (parts_of (state_in one)) ≡ length (parts_of (state_in other))
    pub by_place : (one other : List (Option P)) (place : ℕ) → length one ≡ length other → held_at one place ≡ held_at other place
        → slice_get (parts_of (state_in one)) place ≡ slice_get (parts_of (state_in other)) place
    pub in_order : (hand : List (Option P)) → InOrder (state_in hand)
    -- all parts of a state show a state with these parts, and where it is in order, the state
    pub shown : (s : S) → parts_of (state_in (map Some (parts_of s))) ≡ parts_of s
    pub whole : (s : S) → InOrder s → state_in (map Some (parts_of s)) ≡ s

module _ {S P : Type 0} (parts_of : S → List P) where
  -- the part of a place is the same in both states
  abbrev pub SameAt : ℕ → S → S → Type 0
  SameAt place s t = slice_get (parts_of s) place ≡ slice_get (parts_of t) place

module _ {S P : Type 0} (parts_of : S → List P) (InOrder : S → Type 0) where
  -- two states of as many parts have the same parts in these places, and the second is in order
  pub record Agree (places : List ℕ) (s t : S) : Type 0 where
    pub as_many : length (parts_of t) ≡ length (parts_of s)
    pub in_order : InOrder t
    pub same : (place : ℕ) → is_in places place ≡ true → SameAt parts_of place s t

  -- what is done to a state touches these places alone: the other parts stay, and what becomes of these is told by them
  pub record Touches (places : List ℕ) (step : S → S) (s : S) : Type 0 where
    pub as_many : length (parts_of (step s)) ≡ length (parts_of s)
    pub others : (place : ℕ) → is_in places place ≡ false → SameAt parts_of place (step s) s
    pub told : (t : S) → Agree places s t → Agree places (step s) (step t)

  -- each stage is told by the parts of the places before it
  abbrev pub AreTold : S → List ℕ → List (S → List ℕ) → Type 0
  AreTold s before [] = Unit {0}
  AreTold s before (stage ∷ stages) = ((t : S) → Agree before s t → stage t ≡ stage s) × AreTold s (before ++ stage s) stages

  -- a step touches what its stages want, and each stage is told by those before it
  pub record IsFramed (stages : List (S → List ℕ)) (step : S → S) (s : S) : Type 0 where
    pub stages_told : AreTold s [] stages
    pub touches : Touches (wanted_of stages s) step s
