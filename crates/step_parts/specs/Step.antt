-- One event of the device, and what a history of events leads to (ISO 9506-1, the virtual manufacturing device).
use Rattle.std.specs.Prelude.{ℕ, ◌+◌, ◌-◌, ◌≤◌, List, [], ◌∷◌, fold, length, slice_get, Option, None, Some}
use Rattle.mms_types.specs.Actors.{IsAmong, actor_of}
use Rattle.mms_types.specs.declared.event.What.{What}
use Rattle.mms_types.specs.declared.event.CellEvent.{CellEvent}
use Rattle.mms_types.specs.declared.event.CellEvent.TheVariants.{Tick}
use Rattle.association.specs.Client.{ClientRow}
use Rattle.cell_config.specs.declared.config.Config.{Config}
use Rattle.cell_client.specs.Effects.{Effect, felt}
use Rattle.parted_state.specs.Doing.{Doing, after}
use Rattle.step_parts.specs.State.{State, tables_of, state_of, no_client, start}
use Rattle.cell_services.specs.Tables.{Tables, last_moment}
use Rattle.cell_services.specs.Serving.{serves}

-- what events do to the device
abbrev pub doing : Doing State Tables ClientRow Effect CellEvent
doing = record {
  tables_of = tables_of;
  clients_of = λ s. s.clients;
  state_of = state_of;
  nobody = no_client;
  felt = felt;
  own = actor_of;
  serves = serves;
}

-- one event: the tables become what it makes of them, and each client's row what it is told
abbrev pub step : State → CellEvent → State
step s event = after doing s event

-- the state after a history of events, from the start of a configured device on
abbrev pub replay : Config → List CellEvent → State
replay config history = fold step (start config) history

-- what is to be sent to a client
abbrev pub outbox_in : Option ClientRow → List What
outbox_in None = []
outbox_in (Some row) = row.outbox

abbrev pub outbox_of : State → ℕ → List What
outbox_of s client = outbox_in (slice_get s.clients (client - 1))

-- what a client takes that drains after a history
abbrev pub said : Config → List CellEvent → ℕ → List What
said config history client = outbox_of (replay config history) client

-- time ends no later than the last moment
abbrev pub IsInTime : ℕ → CellEvent → Type 0
IsInTime now (Tick ms) = now + ms ≤ last_moment
IsInTime now event = Unit {0}

-- an event that may come in a state: of one of its clients, or of the cell, and in time
pub record MayCome (s : State) (event : CellEvent) : Type 0 where
  pub among : IsAmong (length s.clients) event
  pub time : IsInTime s.now event

-- events that may come one after the other
abbrev pub MayFollow : State → List CellEvent → Type 0
MayFollow s [] = Unit {0}
MayFollow s (event ∷ rest) = MayCome s event × MayFollow (step s event) rest
