-- The tables that are lifted out of held parts (this profile's choice).
use Rattle.std.specs.Prelude.{ℕ, List, Option, length}
use Rattle.std.specs.Option.{option_map}
use Rattle.parted_state.specs.Lifted.{laid_from}
use Rattle.parted_state.specs.Served.{change}
use Rattle.cell_services.specs.Tables.{Tables}
use Rattle.step_parts.specs.declared.part.Part.{Part}
use Rattle.step_parts.specs.Partition.{cell, clients_among}
use Rattle.step_parts.specs.Slots.{over}

-- a part is laid over the one that is held in a place
abbrev pub laid_at : Part → List (Option Part) → ℕ → List (Option Part)
laid_at part hand place = change (option_map (over part)) hand place

-- or it becomes that part, whatever it is
abbrev pub placed_at : Part → List (Option Part) → ℕ → List (Option Part)
placed_at part hand place = change (option_map (λ held. part)) hand place

-- parts that are held have these tables in place of their own: each is laid over its own part
abbrev pub tabled : Tables → List (Option Part) → List (Option Part)
tabled t hand = laid_from cell over (clients_among (length hand)) 0 (cell.table_parts t) hand
