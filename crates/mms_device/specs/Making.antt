-- Which caller may make which event of the device.
use Rattle.std.specs.Prelude.{◌≡◌, ℕ}
use Rattle.mms_types.specs.Actors.{actor_of, IsAmong}
use Rattle.mms_types.specs.declared.event.CellEvent.{CellEvent}

-- the one with the number of the event's actor: 0 is the cell, and no client has that number
abbrev pub MayMake : ℕ → CellEvent → Type 0
MayMake caller event = (actor_of event ≡ caller) × IsAmong caller event
