-- When the step of an event may be done on held parts.
use Rattle.std.specs.Prelude.{◌≡◌, ℕ, Option, List, [], length}
use Rattle.mms_types.specs.Actors.{IsAmong}
use Rattle.mms_types.specs.declared.event.CellEvent.{CellEvent}
use Rattle.part_table.specs.Held.{held_at, IsHandOf}
use Rattle.step_parts.specs.declared.part.Part.{Part}
use Rattle.step_parts.specs.Needs.{need}
use Rattle.step_parts.specs.Partition.{parts_of, clients_among, clock_in}
use Rattle.cell_client.specs.declared.verdict.Found.{Found}
use Rattle.step_parts.specs.Found.{IsFoundOf}
use Rattle.step_parts.specs.State.{State, IsSound}
use Rattle.step_parts.specs.Step.{IsInTime}

-- they are parts of a state that may come, nothing else is needed, what is found is what its octets come to, and the
-- event is one of a client that is there, in time
pub record MayStep (event : CellEvent) (found : Option Found) (hand : List (Option Part)) : Type 0 where
  pub of : (s : State) × ((count : ℕ) × IsSound count s) × IsHandOf hand (parts_of s)
  pub found_of : IsFoundOf found event hand
  pub among : IsAmong (clients_among (length hand)) event
  pub held : need event hand ≡ []
  pub time : IsInTime (clock_in (held_at hand 0)) event
