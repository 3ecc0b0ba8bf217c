-- What is done on held parts: in place, on the parts that it changes, or on the tables that are lifted out of them
-- (this profile's choice).
use Rattle.std.specs.Prelude.{◌≡◌, Bool, true, false, ℕ, ◌+◌, ◌≤◌, List, [], Option, Some, length}
use Rattle.part_table.specs.Held.{held_at, IsHandOf}
use Rattle.association.specs.Client.{Client as RoomyRow}
use Rattle.parted_state.specs.Lifted.{put_in_place, tables_shown}
use Rattle.parted_state.specs.Served.{Done}
use Rattle.cell_services.specs.Acts.{act_done, IsDoneIn, IsLeft}
use Rattle.cell_client.specs.Association.{Verdict}
use Rattle.cell_client.specs.Effects.{Effect, settled}
use Rattle.cell_services.specs.Serving.{hears, passes}
use Rattle.cell_services.specs.Tables.{Tables, last_moment, own_invocations}
use Rattle.program_inv.specs.Programs.{Rows}
use Rattle.serve_domains.specs.Loads.{AreLoads}
use Rattle.serve_domains.specs.Tables.{DomainTables}
use Rattle.serve_programs.specs.Users.{AreUsed}
use Rattle.step_parts.specs.declared.part.Part.{Part}
use Rattle.step_parts.specs.declared.part.Part.TheVariants.{Client, Clock, Domains, Programs}
use Rattle.step_apply.specs.declared.serving.Task.{Task}
use Rattle.step_apply.specs.declared.serving.Task.TheVariants as task
use Rattle.step_parts.specs.Needs.{verdict_need}
use Rattle.step_parts.specs.State.{State}
use Rattle.step_parts.specs.Found.{row_held}
use Rattle.step_parts.specs.Partition.{cell, client_place, clients_among, domains_in, domains_place, parts_of, programs_in, programs_place, IsClient, IsDomains, IsPrograms}

-- what a task does with the tables, and who is told what: a client does something, or time goes by
abbrev pub task_done : Tables → List (Option Part) → Task → Done Tables Effect
task_done t hand (task.Client client act) = act_done t (row_held hand client) client act
task_done t hand (task.Time ms) = passes ms t

-- the part of a client is held
abbrev pub HoldsClient : ℕ → List (Option Part) → Type 0
HoldsClient client hand = (client ≤ 64) × IsClient (held_at hand (client_place client))

-- where a client does the task, its part is held
abbrev pub HoldsOwn : Task → List (Option Part) → Type 0
HoldsOwn (task.Client client act) hand = HoldsClient client hand
HoldsOwn (task.Time ms) hand = Unit {0}

-- where time goes by, the moment after it is one that six octets name
abbrev pub IsTimely : Task → Tables → Type 0
IsTimely (task.Client client act) t = Unit {0}
IsTimely (task.Time ms) t = t.now + ms ≤ last_moment

-- where a client does the task, it is lost by it, which may change several tables; all else that a client does is done
-- in place, on its part and that of one area
abbrev pub IsLeftTo : Task → Type 0
IsLeftTo (task.Client client act) = IsLeft act
IsLeftTo (task.Time ms) = Unit {0}

-- ---- a client is served

-- where the domains are held, of what a client is asked by the server, and hasn't answered, there is one request of a
-- load for each domain that it loads, and none for another
abbrev pub AreLoadsIn : ℕ → List (Option Part) → Type 0
AreLoadsIn client hand =
    IsDomains (held_at hand domains_place) → AreLoads client (row_held hand client).asked (domains_in (held_at hand domains_place)).domains

-- where domains and program invocations are both held, the names that a domain has are those of the invocations that
-- name it
abbrev pub AreUsedIn : List (Option Part) → Type 0
AreUsedIn hand =
    IsDomains (held_at hand domains_place) → IsPrograms (held_at hand programs_place)
    → AreUsed (domains_in (held_at hand domains_place)).domains (programs_in (held_at hand programs_place))

-- What holds where a client is served on the parts that are held: they are parts of a state with so many clients, no
-- more than 64; the client is one of them, its part is held, and the row in it has the client's number; and so it is
-- with its loads, and with the domains that are used.
pub record IsServing (clients client : ℕ) (hand : List (Option Part)) : Type 0 where
  pub of : (s : State) × IsHandOf hand (parts_of s)
  pub many : clients ≡ clients_among (length hand)
  pub few : clients ≤ 64
  pub among : (1 ≤ client) × (client ≤ clients)
  pub held : IsClient (held_at hand (client_place client))
  pub number : (row_held hand client).client ≡ client
  pub loads : AreLoadsIn client hand
  pub used : AreUsedIn hand

-- What octets of a client come to is ready to be done, with n clients: nothing is needed that isn't held.
abbrev pub IsReady : ℕ → ℕ → Verdict → List (Option Part) → Type 0
IsReady n client v hand = verdict_need n hand (row_held hand client) v ≡ []

-- ---- what is done in place

-- With these tables a verdict by which a program invocation is made or deleted is done in place, on three parts: what
-- those of its client, of the domains and of the program invocations become
pub record AreMade (t : Tables) (v : Verdict) (part new domains programs : Part) : Type 0 where
  pub before : RoomyRow
  pub after : RoomyRow
  pub become : DomainTables × Rows
  pub is_own : part ≡ Client before
  pub is_after : new ≡ Client after
  pub is_domains : domains ≡ Domains become.0
  pub is_programs : programs ≡ Programs become.1
  pub done : IsDoneIn own_invocations t before.row become after v

-- the held parts once a verdict on what a client sends is done on the tables that they show, and those are told that
-- are told something
abbrev pub heard_in_place : ℕ → Verdict → List (Option Part) → List (Option Part)
heard_in_place client v hand = put_in_place cell (hears (tables_shown cell hand) (row_held hand client) client v) hand

-- what stands in one place is the clock
abbrev pub is_clock : Option Part → Bool
is_clock (Some (Clock clock)) = true
is_clock other = false

-- where it is a client's part, no room is kept in it for what the client will be told
abbrev pub IsRoomless : Part → Type 0
IsRoomless (Client own) = own ≡ settled own.row
IsRoomless other = Unit {0}
