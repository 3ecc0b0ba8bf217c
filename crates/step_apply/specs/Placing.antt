-- What is shown of other tables while a request is served on the part of one (this profile's choice).
use Rattle.std.specs.Prelude.{◌≡◌, ◌≢◌, ℕ, Option, Some, List, slice_get}
use Rattle.association.specs.Client.{ClientRow}
use Rattle.mms_types.specs.declared.area.EventRequest.{EventRequest}
use Rattle.parted_state.specs.Area.{Own, IsTable}
use Rattle.parted_state.specs.Lifted.{tables_shown}
use Rattle.cell_services.specs.EventFacts.{event_facts}
use Rattle.cell_services.specs.Tables.{Tables}
use Rattle.step_apply.specs.declared.events.Facts.{Facts}
use Rattle.step_parts.specs.declared.part.Part.{Part}
use Rattle.step_parts.specs.Partition.{cell}

-- beside the table of that number, these tables are those that held parts show
abbrev pub AreBeside : ℕ → List (Option Part) → Tables → Type 0
AreBeside number hand t = (l : ℕ) → l ≢ number → slice_get (cell.table_parts t) l ≡ slice_get (cell.table_parts (tables_shown cell hand)) l

-- what stands in one place is the part of that table
abbrev pub IsPartOf : {A : Type 0} {own : Own Tables A} → IsTable cell own → Option Part → Type 0
IsPartOf its o = o ≡ Some (its.part (its.part_in o))

-- What was found for a request of a client for event conditions and enrollments is what these tables tell it: the
-- moment; whether the domain is live that has to be; what becomes of the cell that is
-- to be watched; and whether the cell is TRUE that is watched
pub record AreTold (asked : EventRequest) (client : ℕ) (t : Tables) (found : Facts) : Type 0 where
  pub now : t.now ≡ found.now.0
  pub live : (row : ClientRow) → (event_facts t row asked).live ≡ found.live
  pub watched : (row : ClientRow) → (event_facts t row asked).cell client ≡ found.cell
  pub truth : (row : ClientRow) → row.client ≡ client → (event_facts t row asked).truth ≡ found.is_true
