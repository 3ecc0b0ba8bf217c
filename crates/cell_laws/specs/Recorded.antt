-- Entries of journals stay as they were written (ISO 9506-1, journal management: no service changes an entry).
use Rattle.std.specs.Prelude.{◌≡◌, ◌⊎◌, ℕ, true, List, [], Option, None, Some}
use Rattle.mms_types.specs.Order.{key_of, scope_eq}
use Rattle.mms_types.specs.declared.event.CellEvent.{CellEvent}
use Rattle.mms_types.specs.declared.event.CellEvent.TheVariants.{Heard}
use Rattle.mms_types.specs.declared.key.Key.{Key}
use Rattle.mms_types.specs.declared.key.Scope.TheVariants.{Association}
use Rattle.mms_types.specs.declared.pdu.Request.{Request}
use Rattle.mms_types.specs.declared.pdu.Request.TheVariants as request
use Rattle.mms_journal.specs.Journals.{Log, Rows, named}
use Rattle.mms_journal.specs.Services.{goes}
use Rattle.mms_journal.specs.declared.journal.Written.{Written}
use Rattle.parted_state.specs.Served.{row_at}
use Rattle.cell_client.specs.Association.{Takes, verdict}
use Rattle.cell_services.specs.Serving.{is_served, resolved}
use Rattle.step_parts.specs.Partition.{cell}
use Rattle.step_parts.specs.State.{State}
use Rattle.cell_laws.specs.Freed.{Leaves}
use Rattle.cell_laws.specs.Loads.{IsAbortedMeanwhile}

abbrev pub entries_found : Option Log → List Written
entries_found None = []
entries_found (Some journal) = journal.entries

-- the entries of the journal of that name, each with its number and the client that wrote it
abbrev pub recorded : Key → Rows → List Written
recorded key rows = entries_found (named key rows)

-- a request of a client by which an entry goes: its journal is initialized, and it is one of those that this is about; or
-- its journal is deleted
abbrev pub Removes : ℕ → Key → Written → Request → Type 0
Removes client key entry (request.InitializeJournal asked) = (key_of client asked.name ≡ key) × (goes asked.limit entry ≡ true)
Removes client key entry (request.DeleteJournal name) = key_of client name ≡ key
Removes client key entry other = ⊥

-- a client asks for that by an event; the request is taken, and isn't refused
pub record IsRemoved (s : State) (event : CellEvent) (key : Key) (entry : Written) : Type 0 where
  pub client : ℕ
  pub octets : List ℕ
  pub heard : event ≡ Heard client octets
  pub invoke : ℕ
  pub asked : Request
  pub taken : resolved (cell.tables_of s) (row_at cell client s.clients) (verdict (row_at cell client s.clients) octets) ≡ Takes invoke asked
  pub served : is_served (cell.tables_of s) (row_at cell client s.clients) invoke asked ≡ true
  pub removes : Removes client key entry asked

-- its journal is one of the association of a client, and that ends, or is aborted while time goes by
pub record EndsWith (s : State) (event : CellEvent) (key : Key) : Type 0 where
  pub client : ℕ
  pub scope : scope_eq key.scope (Association client) ≡ true
  pub ends : Leaves client s event ⊎ IsAbortedMeanwhile client s event

-- why an entry of the journal of that name goes
abbrev pub GoesBy : State → CellEvent → Key → Written → Type 0
GoesBy s event key entry = IsRemoved s event key entry ⊎ EndsWith s event key
