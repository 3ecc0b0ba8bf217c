-- What happens until a moment, as the tables show it that are held.
use Rattle.std.specs.Prelude.{◌≡◌, ◌≢◌, ℕ, ◌+◌, ◌==◌, List, None, length}
use Rattle.std.specs.List.{list_any}
use Rattle.part_table.specs.Held.{held_at}
use Rattle.parted_state.specs.Served.{is_told}
use Rattle.event_cond.specs.Skips.{Saying}
use Rattle.cell_ticks.specs.Deadlines.{next_due}
use Rattle.cell_ticks.specs.Ticks.{Ticking, ticked}
use Rattle.cell_services.specs.Serving.{all_told, saying}
use Rattle.step_parts.specs.Partition.{clients_among, clock_in, clock_place, events_in, events_place, semaphores_in, semaphores_place, variables_in, variables_place}
use Rattle.step_needs.specs.declared.time.Coming.{Coming}

-- what the cells say that are held
abbrev pub says : Coming → Saying
says coming = saying (variables_in (held_at coming.held.now variables_place))

abbrev pub comes : Coming → Ticking
comes coming = ticked (says coming) coming.until coming.semaphores.now coming.events.now.conditions coming.events.now.enrolments

-- a deadline of a semaphore or an evaluation is due by then
abbrev pub IsDue : Coming → Type 0
IsDue coming = next_due coming.until coming.semaphores.now coming.events.now.conditions ≢ None

-- these clients, and no others, are told something by it
abbrev pub AreTold : Coming → List ℕ → Type 0
AreTold coming clients = (k : ℕ) → is_told (all_told (comes coming).happened) k ≡ list_any (λ c. c == k) clients

-- with so many clients the moment comes after so many milliseconds, and these are the semaphores and event conditions
-- that are held
pub record IsComing (coming : Coming) (clients ms : ℕ) : Type 0 where
  pub many : clients ≡ clients_among (length coming.held.now)
  pub until : coming.until.0 ≡ clock_in (held_at coming.held.now clock_place) + ms
  pub semaphores : coming.semaphores.now ≡ semaphores_in (held_at coming.held.now (semaphores_place clients))
  pub events : coming.events.now ≡ events_in (held_at coming.held.now events_place)
