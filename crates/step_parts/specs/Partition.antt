-- The parts that the state is cut into, each a thing that one caller at a time can hold (this profile's choice).
use Rattle.std.specs.Prelude.{◌≡◌, ℕ, ◌+◌, ◌-◌, List, [], ◌∷◌, ◌++◌, map, Option, Some}
use Rattle.mms_types.specs.declared.event.What.{What}
use Rattle.association.specs.Client.{ClientRow, Client as RoomyRow}
use Rattle.part_table.specs.Held.{held_at}
use Rattle.parted_state.specs.Served.{Device}
use Rattle.parted_state.specs.Served as parted
use Rattle.step_parts.specs.declared.part.Part.{Part}
use Rattle.step_parts.specs.declared.part.Part.TheVariants.{Clock, Variables, Domains, Programs, Events, Journals, Client, Semaphores}
use Rattle.step_parts.specs.State.{State, tables_of, state_of}
pub use Rattle.step_parts.specs.State.{no_device, no_client}
use Rattle.mms_time.specs.Semaphores.{Rows}
use Rattle.cell_client.specs.Effects.{Effect, felt, settled}
use Rattle.cell_services.specs.Tables.{Tables}
use Rattle.mms_journal.specs.Journals as journal
use Rattle.program_inv.specs.Programs as program
use Rattle.serve_domains.specs.Tables.{DomainTables, no_domains}
use Rattle.serve_events.specs.Tables.{no_events}
use Rattle.serve_events.specs.declared.tables.EventTables.{EventTables}
use Rattle.variable_services.specs.declared.tables.VariableTables.{VariableTables}
use Rattle.variable_services.specs.Services.{no_variables}

-- With n clients there are n + 7 parts, each in a place of its own: the clock, the variables and their lists, the
-- domains and their uploads, the program invocations, the event conditions and enrollments, the journals, the n clients
-- in the order of their numbers, which begin with 1, and last the semaphores.
abbrev pub clock_place : ℕ
clock_place = 0

abbrev pub variables_place : ℕ
variables_place = 1

abbrev pub domains_place : ℕ
domains_place = 2

abbrev pub programs_place : ℕ
programs_place = 3

abbrev pub events_place : ℕ
events_place = 4

abbrev pub journals_place : ℕ
journals_place = 5

-- the place of a client, by its number: clients stand behind the journals
abbrev pub client_place : ℕ → ℕ
client_place client = journals_place + client

-- the place of the semaphores, behind n clients
abbrev pub semaphores_place : ℕ → ℕ
semaphores_place n = 6 + n

-- how many parts are no client's
abbrev pub tables_many : ℕ
tables_many = 7

-- how many clients there are, by the number of parts
abbrev pub clients_among : ℕ → ℕ
clients_among places = places - tables_many

-- a client's row as a part
abbrev pub client_part : ClientRow → Part
client_part row = Client (settled row)

-- the parts of a state, each in its place
abbrev pub parts_of : State → List Part
parts_of s = Clock s.now ∷ Variables s.variables ∷ Domains s.domains ∷ Programs s.programs ∷ Events s.events ∷ Journals s.journals ∷ (map client_part s.clients ++ Semaphores s.semaphores ∷ [])

-- ---- what a part shows, where it is held

-- Each of these is asked of what stands in one place: a part, or nothing where the part isn't held.

-- the moment, where the clock is held, and else this one
abbrev pub clock_or : ℕ → Option Part → ℕ
clock_or now (Some (Clock held)) = held
clock_or now other = now

-- the moment, where the clock is held, and else 0; and so below the tables, and else empty ones
abbrev pub clock_in : Option Part → ℕ
clock_in part = clock_or 0 part

-- the variables, where they are held, and else these
abbrev pub variables_or : VariableTables → Option Part → VariableTables
variables_or variables (Some (Variables held)) = held
variables_or variables other = variables

abbrev pub variables_in : Option Part → VariableTables
variables_in part = variables_or no_variables part

-- the domains, where they are held, and else these
abbrev pub domains_or : DomainTables → Option Part → DomainTables
domains_or domains (Some (Domains held)) = held
domains_or domains other = domains

abbrev pub domains_in : Option Part → DomainTables
domains_in part = domains_or no_domains part

-- the program invocations, where they are held, and else these
abbrev pub programs_or : program.Rows → Option Part → program.Rows
programs_or programs (Some (Programs held)) = held
programs_or programs other = programs

abbrev pub programs_in : Option Part → program.Rows
programs_in part = programs_or [] part

-- the event conditions and enrollments, where they are held, and else these
abbrev pub events_or : EventTables → Option Part → EventTables
events_or events (Some (Events held)) = held
events_or events other = events

abbrev pub events_in : Option Part → EventTables
events_in part = events_or no_events part

-- the journals, where they are held, and else these
abbrev pub journals_or : journal.Rows → Option Part → journal.Rows
journals_or journals (Some (Journals held)) = held
journals_or journals other = journals

abbrev pub journals_in : Option Part → journal.Rows
journals_in part = journals_or [] part

-- the semaphores, where they are held, and else these
abbrev pub semaphores_or : Rows → Option Part → Rows
semaphores_or semaphores (Some (Semaphores held)) = held
semaphores_or semaphores other = semaphores

abbrev pub semaphores_in : Option Part → Rows
semaphores_in part = semaphores_or [] part

-- the row of a client, where its part is held, and else nobody's
abbrev pub row_in : Option Part → ClientRow
row_in (Some (Client client)) = client.row
row_in other = no_client

-- what is to be sent to a client, where its part is held
abbrev pub outbox_held : Option Part → List What
outbox_held (Some (Client client)) = client.row.outbox
outbox_held other = []

-- a client's row and the room that is made for what it is told, where its part is held
abbrev pub client_in : Option Part → RoomyRow
client_in (Some (Client client)) = client
client_in other = settled no_client

-- the number of the client whose part this is
abbrev pub client_of : Part → ℕ
client_of part = (row_in (Some part)).client

-- ---- a part is changed

-- A client's row is changed, and no room is left in its part; a part of another kind stays as it is.
abbrev pub on_client : (ClientRow → ClientRow) → Part → Part
on_client f (Client client) = client_part (f client.row)
on_client f other = other

-- ---- which part it is

-- what stands in one place is the part of a client; and so below the variables, the domains, the program invocations,
-- the event conditions and enrollments, the journals, and the semaphores
abbrev pub IsClient : Option Part → Type 0
IsClient part = part ≡ Some (Client (client_in part))

abbrev pub IsVariables : Option Part → Type 0
IsVariables part = part ≡ Some (Variables (variables_in part))

abbrev pub IsDomains : Option Part → Type 0
IsDomains part = part ≡ Some (Domains (domains_in part))

abbrev pub IsPrograms : Option Part → Type 0
IsPrograms part = part ≡ Some (Programs (programs_in part))

abbrev pub IsEvents : Option Part → Type 0
IsEvents part = part ≡ Some (Events (events_in part))

abbrev pub IsJournals : Option Part → Type 0
IsJournals part = part ≡ Some (Journals (journals_in part))

abbrev pub IsSemaphores : Option Part → Type 0
IsSemaphores part = part ≡ Some (Semaphores (semaphores_in part))

-- ---- the tables that are held

-- the tables of all held parts, with n clients; where a part isn't held, its table is empty, and the moment 0
abbrev pub tables_held : ℕ → List (Option Part) → Tables
tables_held n hand = record {
  now = clock_in (held_at hand clock_place);
  variables = variables_in (held_at hand variables_place);
  domains = domains_in (held_at hand domains_place);
  programs = programs_in (held_at hand programs_place);
  events = events_in (held_at hand events_place);
  journals = journals_in (held_at hand journals_place);
  semaphores = semaphores_in (held_at hand (semaphores_place n));
}

-- But for the moment, which has no names, these tables are the ones that are held, with n clients.
pub record AreHeld (n : ℕ) (hand : List (Option Part)) (t : Tables) : Type 0 where
  pub variables : t.variables ≡ (tables_held n hand).variables
  pub domains : t.domains ≡ (tables_held n hand).domains
  pub programs : t.programs ≡ (tables_held n hand).programs
  pub events : t.events ≡ (tables_held n hand).events
  pub journals : t.journals ≡ (tables_held n hand).journals
  pub semaphores : t.semaphores ≡ (tables_held n hand).semaphores

-- ---- the device, as tables and clients

-- How a state is cut into tables and clients, and put together of them; and which tables parts show that stand in the
-- order of the tables, without those of clients between them. Where a part isn't held, its table is empty. Each table
-- has one part, so whatever tables there are show in their parts as they are.
abbrev pub cell : Device State Tables ClientRow Effect Part
cell = record {
  tables_of = tables_of;
  clients_of = λ s. s.clients;
  state_of = state_of;
  table_parts = λ t. Clock t.now ∷ Variables t.variables ∷ Domains t.domains ∷ Programs t.programs ∷ Events t.events ∷ Journals t.journals ∷ Semaphores t.semaphores ∷ [];
  tables = tables_many;
  last = 5;
  client_part = client_part;
  InOrder = λ t. Unit {0};
  tables_in = λ hand. record {
    now = clock_in (held_at hand 0);
    variables = variables_in (held_at hand 1);
    domains = domains_in (held_at hand 2);
    programs = programs_in (held_at hand 3);
    events = events_in (held_at hand 4);
    journals = journals_in (held_at hand 5);
    semaphores = semaphores_in (held_at hand 6);
  };
  row_in = row_in;
  nobody = no_client;
  felt = felt;
}

-- the tables of a state are in order, as those that parts show are
abbrev pub IsInOrder : State → Type 0
IsInOrder s = parted.IsInOrder cell s

-- the state that held parts show: the tables that are held, and the rows of the clients
abbrev pub state_in : List (Option Part) → State
state_in hand = parted.state_in cell hand

-- the row of a client in a state
abbrev pub row_of : State → ℕ → ClientRow
row_of s client = parted.row_at cell client s.clients
