-- What an event makes of the parts that are held, and of all parts (this profile's choice).
use Rattle.std.specs.Prelude.{List, Option}
use Rattle.mms_types.specs.declared.event.CellEvent.{CellEvent}
use Rattle.parted_state.specs.Served as parted
use Rattle.step_parts.specs.declared.part.Part.{Part}
use Rattle.step_parts.specs.Partition.{cell}
use Rattle.cell_services.specs.Serving.{services}

-- the held parts after an event: those that it wants become as the state has them after the step, and the others stay
abbrev pub after : CellEvent → List (Option Part) → List (Option Part)
after event hand = parted.after cell services event hand

-- all parts after an event
abbrev pub parts_after : CellEvent → List Part → List Part
parts_after event parts = parted.parts_after cell services event parts
