-- The history in which the phases of a recording are served (this profile's choice).
use Rattle.std.specs.Prelude.{ℕ, ◌≡◌, ◌==◌, if◌then◌else◌, List, [], ◌∷◌, ◌++◌, map, flat_map}
use Rattle.mms_types.specs.Actors.{clients_to, actor_of}
use Rattle.mms_types.specs.declared.event.CellEvent.{CellEvent}
use Rattle.mms_types.specs.declared.event.CellEvent.TheVariants.{Drain}

-- the end of a phase: each of these clients takes what is to be sent to it
abbrev pub drains : List ℕ → List CellEvent
drains clients = map Drain clients

-- the events of an actor, in order
abbrev pub events_of : ℕ → List CellEvent → List CellEvent
events_of actor [] = []
events_of actor (event ∷ rest) = if actor_of event == actor then event ∷ events_of actor rest
    else events_of actor rest

-- the body of a served phase: for each actor just the recorded events, in that actor's order, and
-- no others
pub record IsBodyOf (body phase : List CellEvent) : Type 0 where
  pub each : (actor : ℕ) → events_of actor body ≡ events_of actor phase

-- bodies that serve the phases, one after the other
abbrev pub Interleaves : List (List CellEvent) → List (List CellEvent) → Type 0
Interleaves [] [] = Unit {0}
Interleaves (body ∷ bodies) (phase ∷ phases) = IsBodyOf body phase × Interleaves bodies phases
Interleaves bodies phases = ⊥

-- the history of those bodies: each of them, and then the drains that end its phase
abbrev pub history : ℕ → List (List CellEvent) → List CellEvent
history n bodies = flat_map (λ body. body ++ drains (clients_to n)) bodies
