-- How tables change (this profile's choice).
use Rattle.std.specs.Prelude.{◌+◌, ◌≤◌, ℕ, Bool, List, map, true, false}
use Rattle.cell_services.specs.declared.tables.Change.{Change}
use Rattle.cell_services.specs.declared.tables.Change.TheVariants.{Nothing, Passes, Ticks, Loses}
use Rattle.sem_ticks.specs.Renewed.{renewed}
use Rattle.event_ticks.specs.Ticks as events
use Rattle.event_ticks.specs.declared.ticks.Loss.{Loss}
use Rattle.serve_events.specs.declared.tables.EventTables.{EventTables}
use Rattle.cell_services.specs.Tables.{Tables, last_moment, moment_after}
use Rattle.cell_services.specs.Serving.{domains_without, journals_without, saying, without_client, without_clients}

abbrev pub clients_of : List Loss → List ℕ
clients_of losses = map (λ loss. loss.client) losses

-- event conditions and enrollments after so many milliseconds, in which clients are lost
abbrev pub events_ticked : ℕ → List Loss → Tables → events.Ticking
events_ticked ms losses t = events.ticked (saying t.variables) (moment_after ms t) (events.begun t.events.conditions t.events.enrolments losses)

abbrev pub events_after : ℕ → List Loss → Tables → EventTables
events_after ms losses t = record { conditions = (events_ticked ms losses t).conditions; enrolments = (events_ticked ms losses t).enrolments }

abbrev pub changed : Change → Tables → Tables
changed Nothing t = t
changed (Passes ms) t = record t { now = t.now + ms }
changed (Ticks ms renewal losses) t = record {
  now = t.now + ms;
  variables = without_clients (clients_of losses.items) t.variables;
  domains = domains_without (clients_of losses.items) t.domains;
  programs = t.programs;
  events = events_after ms losses.items t;
  journals = journals_without (clients_of losses.items) t.journals;
  semaphores = renewed renewal t.semaphores;
}
changed (Loses client) t = without_client client t

-- what may want memory: a client that is lost
abbrev pub may_want : Change → Tables → Bool
may_want (Loses client) t = true
may_want other t = false

-- the moment stays one that six octets name
abbrev pub MayChange : Change → Tables → Type 0
MayChange Nothing t = Unit {0}
MayChange (Passes ms) t = t.now + ms ≤ last_moment
MayChange (Ticks ms renewal losses) t = t.now + ms ≤ last_moment
MayChange (Loses client) t = Unit {0}
