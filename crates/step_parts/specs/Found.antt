-- What octets come to, on the parts that are held (this profile's choice).
use Rattle.std.specs.Prelude.{◌≡◌, ◌≢◌, ℕ, List, Option, None, Some}
use Rattle.part_table.specs.Held.{held_at}
use Rattle.association.specs.Client.{ClientRow}
use Rattle.mms_types.specs.declared.event.CellEvent.{CellEvent}
use Rattle.mms_types.specs.declared.event.CellEvent.TheVariants.{Heard}
use Rattle.cell_client.specs.declared.verdict.Found.{Found}
use Rattle.cell_client.specs.Association.{verdict}
use Rattle.cell_client.specs.Meant.{meant}
use Rattle.cell_client.specs.Reads.{Kept, edition_of}
use Rattle.step_parts.specs.declared.part.Part.{Part}
use Rattle.step_parts.specs.Partition.{client_place, row_in, IsClient}

-- ---- tasks, which are done on tables that are lifted out of the parts that are held

-- the row of a client whose part is held
abbrev pub row_held : List (Option Part) → ℕ → ClientRow
row_held hand client = row_in (held_at hand (client_place client))

-- ---- what octets come to

-- Octets that are heard from a client come to a verdict, by the row of that client: it tells what the event needs, and
-- what its step does. It is found once for both. Where it was found, the part of the client is held, and what was found
-- is the verdict by the row there. It may not be found yet, and of other events nothing is found.
abbrev pub IsFoundOf : Option Found → CellEvent → List (Option Part) → Type 0
IsFoundOf (Some found) (Heard client octets) hand = IsClient (held_at hand (client_place client)) × (meant found ≡ verdict (row_held hand client) octets)
IsFoundOf found event hand = Unit {0}

-- Octets are read before any part is held, by one edition of the standard. Where nothing is found from what was read
-- though the part of their client is held, they were read by another edition than that of the row there. So the verdict
-- is found wherever the part is held and the octets were read by its edition.
abbrev pub IsFoundWhereRead : Option Found → Kept → CellEvent → List (Option Part) → Type 0
IsFoundWhereRead None kept (Heard client octets) hand = IsClient (held_at hand (client_place client)) → edition_of kept ≢ Some (row_held hand client).constants.edition
IsFoundWhereRead found kept event hand = Unit {0}
