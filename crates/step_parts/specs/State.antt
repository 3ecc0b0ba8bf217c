-- The state of the device: plain lists of rows and the moment (ISO 9506-1, the virtual manufacturing device).
use Rattle.std.specs.Prelude.{◌≡◌, ℕ, ◌+◌, ◌<◌, ◌≤◌, List, [], ◌∷◌, IfSome, Some, map, length, slice_get}
use Rattle.std.specs.List.{All, IsDistinct}
use Rattle.std.specs.Map.{keys_of, values_of}
use Rattle.mms_types.specs.Actors.{clients_to}
use Rattle.mms_types.specs.declared.identifier.Edition.TheVariants.{One}
use Rattle.association.specs.Admission.{called_of}
use Rattle.association.specs.Asked.{AreApart, AreBelow}
use Rattle.association.specs.Client.{ClientRow, new_row}
use Rattle.association.specs.declared.constants.Constants.{Constants}
use Rattle.association.specs.declared.waiting.Waiting.{Waiting}
use Rattle.cell_config.specs.declared.config.Config.{Config}
use Rattle.domain_load.specs.Domains.{name_eq}
use Rattle.domain_upload.specs.Uploads.{AreOf}
use Rattle.event_cond.specs.Conditions.{Rows as Conditions}
use Rattle.event_cond.specs.declared.condition.ConditionClass.{ConditionClass}
use Rattle.event_cond.specs.declared.condition.ConditionClass.TheVariants.{NetworkTriggered, Monitored}
use Rattle.event_cond.specs.declared.condition.Watch.{Watch}
use Rattle.event_ticks.specs.Sound as events
use Rattle.mms_journal.specs.Journals.{Rows as Journals}
use Rattle.program_inv.specs.Programs.{Rows as Programs}
use Rattle.serve_domains.specs.Loads.{AreLoads}
use Rattle.serve_domains.specs.Tables.{DomainTables, no_domains}
use Rattle.serve_events.specs.Tables.{no_events}
use Rattle.serve_events.specs.declared.tables.EventTables.{EventTables}
use Rattle.serve_programs.specs.Users.{AreUsed}
use Rattle.variable_services.specs.declared.tables.VariableTables.{VariableTables}
use Rattle.variable_services.specs.Services.{configured}
use Rattle.mms_time.specs.Opening as pools
use Rattle.mms_time.specs.Semaphores.{Rows, made_in}
use Rattle.sem_ticks.specs.Sound.{AreSound, LieAhead}
use Rattle.cell_services.specs.Tables.{Tables, last_moment}

pub record State : Type 0 where
  -- the moment, in milliseconds since the beginning of 1 January 1984
  pub now : ℕ
  -- cells, named variables and their lists
  pub variables : VariableTables
  -- domains and the uploads of them
  pub domains : DomainTables
  -- program invocations
  pub programs : Programs
  -- event conditions and the enrollments on them
  pub events : EventTables
  -- journals
  pub journals : Journals
  -- semaphores
  pub semaphores : Rows
  -- the rows of clients 1 to n, in this order
  pub clients : List ClientRow

-- the tables of a state, and the state of tables and the rows of clients
abbrev pub tables_of : State → Tables
tables_of s = record { now = s.now; variables = s.variables; domains = s.domains; programs = s.programs; events = s.events; journals = s.journals; semaphores = s.semaphores }

abbrev pub state_of : Tables → List ClientRow → State
state_of t rows = record { now = t.now; variables = t.variables; domains = t.domains; programs = t.programs; events = t.events; journals = t.journals; semaphores = t.semaphores; clients = rows }

-- the device and the row that stand for a client's where there is none; nothing is said of them
abbrev pub no_device : Constants
no_device = record { edition = One; vendor = []; model = []; revision = [] }

abbrev pub no_client : ClientRow
no_client = new_row 0 no_device

-- what never changes of a configured device: its edition, and the three texts that it answers to Identify (ISO 9506-2,
-- Identify)
abbrev pub device_of : Config → Constants
device_of config = record { edition = config.edition; vendor = config.vendor; model = config.model; revision = config.revision }

-- the rows of clients 1 to n at the start: no association is open, nothing waits and nothing is to be sent
abbrev pub first_rows : Config → ℕ → List ClientRow
first_rows config n = map (λ c. new_row c (device_of config)) (clients_to n)

-- the start: it is the configured moment, there are the configured cells, variables and pools, no domains, no program
-- invocations, no event conditions, no journals, and as many clients as are configured
abbrev pub start : Config → State
start config = record {
  now = config.start.0;
  variables = configured config.cells config.variables;
  domains = no_domains;
  programs = [];
  events = no_events;
  journals = [];
  semaphores = pools.configured config.pools;
  clients = first_rows config config.clients;
}

-- each of the requests that wait has a number that is no greater than that of so many events
abbrev pub AreNumbered : ℕ → List Waiting → Type 0
AreNumbered count [] = Unit {0}
AreNumbered count (request ∷ waiting) = (request.entry ≤ count) × AreNumbered count waiting

-- What holds of the row of a client after so many events: it has the client's number; no more requests wait than the
-- association allows, and so none without one; each of them has the number of one of the events; and the numbers of the
-- server's unanswered requests are distinct and below the next one.
pub record IsSoundRow (count client : ℕ) (row : ClientRow) : Type 0 where
  pub number : row.client ≡ client
  pub allowed : length row.waiting ≤ called_of row.association
  pub entries : AreNumbered count row.waiting
  pub apart : AreApart row.asked
  pub below : AreBelow row.next_invoke row.asked

-- each semaphore has made so many entries at most: an event makes one entry at most
abbrev pub HaveMadeAtMost : ℕ → Rows → Type 0
HaveMadeAtMost count semaphores = All (λ row. made_in row.semaphore ≤ count) (values_of semaphores)

-- a monitored condition was defined by that moment, and its next evaluation, where it has one, lies after it
pub record IsAwaited (now : ℕ) (w : Watch) : Type 0 where
  pub defined : w.defined.0 ≤ now
  pub next : IfSome w.evaluation (λ e. now < e.next.0)

abbrev pub IsAwaitedClass : ℕ → ConditionClass → Type 0
IsAwaitedClass now NetworkTriggered = Unit {0}
IsAwaitedClass now (Monitored w) = IsAwaited now w

-- each event condition that is monitored was
abbrev pub AreAwaited : ℕ → Conditions → Type 0
AreAwaited now rows = All (λ row. IsAwaitedClass now row.1.class) rows

-- What holds of each state of the device after so many events: it has 1 to 64 clients, in the order of their numbers,
-- and their rows are sound; no token of its semaphores is owned twice, and no free one is waited for; each semaphore
-- has made no more entries than there were events; each deadline lies ahead; its event conditions are evaluated at
-- multiples of their intervals, and each evaluation lies ahead; no two domains have one name; of each client the
-- server's unanswered requests of a load are of the domains that it loads, one of each; the domain of each open upload
-- is there, and isn't LOADING; and the domains that program invocations name are there for them, and for no others.
pub record IsSound (count : ℕ) (s : State) : Type 0 where
  pub some : 1 ≤ length s.clients
  pub few : length s.clients ≤ 64
  pub rows : (i : ℕ) (row : ClientRow) → slice_get s.clients i ≡ Some row → IsSoundRow count (i + 1) row
  pub semaphores : AreSound s.semaphores
  pub made : HaveMadeAtMost count s.semaphores
  pub ahead : LieAhead (record { 0 = s.now }) s.semaphores
  pub conditions : events.AreSound s.events.conditions
  pub awaited : AreAwaited s.now s.events.conditions
  pub names : IsDistinct name_eq (keys_of s.domains.domains)
  pub loads : (i : ℕ) (row : ClientRow) → slice_get s.clients i ≡ Some row → AreLoads (i + 1) row.asked s.domains.domains
  pub uploads : AreOf s.domains.uploads s.domains.domains
  pub used : AreUsed s.domains.domains s.programs

-- six octets name its moment, which the ticks of all callers together keep and no caller alone can tell
abbrev pub HasDate : State → Type 0
HasDate s = s.now ≤ last_moment
