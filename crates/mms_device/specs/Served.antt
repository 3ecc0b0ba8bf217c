-- What contracts see of the device that one thread serves.
use Rattle.std.specs.Prelude.{ℕ, ◌+◌, List, length}
use Rattle.mms_types.specs.declared.event.CellEvent.{CellEvent}
use Rattle.cell_config.specs.declared.config.Config.{Config}
use Rattle.step_parts.specs.State.{State}
use Rattle.step_parts.specs.Step.{step, replay}

-- the state, and how many events were served
pub record Served : Type 0 where
  pub state : State
  pub count : ℕ

-- after one more event
abbrev pub served : Served → CellEvent → Served
served device event = record { state = step device.state event; count = device.count + 1 }

-- the configured device after a history
abbrev pub device_after : Config → List CellEvent → Served
device_after config history = record { state = replay config history; count = length history }
