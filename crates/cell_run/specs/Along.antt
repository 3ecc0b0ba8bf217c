-- A phase as the device serves it: the words of clauses inside the crate.
use Rattle.std.specs.Prelude.{◌≡◌, ℕ, List, [], ◌∷◌, fold, length}
use Rattle.mms_types.specs.Actors.{clients_to}
use Rattle.mms_types.specs.declared.event.What.{What}
use Rattle.mms_types.specs.declared.event.CellEvent.{CellEvent}
use Rattle.mms_types.specs.declared.event.CellEvent.TheVariants.{Drain}
use Rattle.std.specs.List.{All}
use Rattle.cell_config.specs.declared.config.Config.{Config}
use Rattle.cell_record.specs.EventLine.{IsRecorded}
use Rattle.step_parts.specs.Step.{outbox_of}
use Rattle.mms_device.specs.Served.{Served, served}

-- events, one after the other
abbrev pub along : Served → List CellEvent → Served
along device events = fold served device events

-- its clients
abbrev pub clients_of : Served → List ℕ
clients_of device = clients_to (length device.state.clients)

-- what these clients take that drain, one after the other
abbrev pub taken_along : Served → List ℕ → List (List What)
taken_along device [] = []
taken_along device (c ∷ cs) = outbox_of device.state c ∷ taken_along (served device (Drain c)) cs

-- events that a recording of so many clients has
pub record AreRecorded (clients : ℕ) (events : List CellEvent) : Type 0 where
  pub config : Config
  pub same : clients ≡ config.clients
  pub each : All (IsRecorded config) events
