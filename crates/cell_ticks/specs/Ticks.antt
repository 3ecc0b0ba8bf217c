-- Time goes by for a device: every deadline of its semaphores and every evaluation of its event conditions up to a moment is met at its own moment, also those
-- that arise meanwhile (ISO 9506-1, TakeControl, acceptableDelay, controlTimeOut and abortOnTimeOut; event condition, monitored).
use Rattle.std.specs.Prelude.{ℕ, ◌+◌, ◌==◌, List, [], ◌++◌, filter_map, fold, map, Option, None, Some, option_and_then, option_map, if◌then◌else◌}
use Rattle.std.specs.List.{sum_by}
use Rattle.std.specs.Map.{values_of}
use Rattle.mms_types.specs.declared.moment.Moment.{Moment}
use Rattle.mms_time.specs.Deadlines.{NamedDeadline}
use Rattle.mms_time.specs.Semaphores as sem_rows
use Rattle.sem_ticks.specs.Ticks as sem
use Rattle.sem_ticks.specs.Ticks.{entries_left}
use Rattle.sem_ticks.specs.declared.ticks.Happening as sem_happening
use Rattle.sem_ticks.specs.declared.ticks.Happening.TheVariants.{WaitEnds, Grants, Aborts}
use Rattle.event_cond.specs.Conditions as cond
use Rattle.event_cond.specs.Deletion as cond_lost
use Rattle.event_cond.specs.Skips.{Saying}
use Rattle.event_enrol.specs.Enrolments as enrol
use Rattle.event_ticks.specs.Settling.{settle}
use Rattle.event_ticks.specs.Ticks as events
use Rattle.event_ticks.specs.Ticks.{most_of}
use Rattle.event_ticks.specs.declared.ticks.TurnTold.{TurnTold}
use Rattle.cell_ticks.specs.Deadlines.{evaluation, next_due}
use Rattle.cell_ticks.specs.declared.happening.DatedHappening.{DatedHappening}
use Rattle.cell_ticks.specs.declared.happening.Happening.{Happening}
use Rattle.cell_ticks.specs.declared.happening.Happening.TheVariants.{Semaphores, Turns}

-- semaphores, conditions and enrollments, and what happened, each with its moment, in order
pub record Ticking : Type 0 where
  pub semaphores : sem_rows.Rows
  pub conditions : cond.Rows
  pub enrolments : enrol.Rows
  pub happened : List DatedHappening

abbrev pub dated : Moment → Happening → DatedHappening
dated at happening = record { at = at; happening = happening }

-- ---- a deadline of a semaphore

-- the client whose association is aborted
abbrev pub aborted_one : sem_happening.Happening → Option ℕ
aborted_one (WaitEnds client invoke) = None
aborted_one (Grants granted) = None
aborted_one (Aborts client) = Some client

abbrev pub aborted : List sem_happening.Happening → List ℕ
aborted happened = filter_map aborted_one happened

-- clients are lost, and nobody is told: the conditions and the enrollments of their associations go, and whatever enrollments they defined
abbrev pub without_clients : List ℕ → cond.Rows → cond.Rows
without_clients clients conditions = fold (λ rows client. cond_lost.without_client client rows) conditions clients

abbrev pub enrolments_without : List ℕ → enrol.Rows → enrol.Rows
enrolments_without clients enrolments = fold (λ rows client. enrol.without_client client rows) enrolments clients

-- that became of the semaphores, and happened to them, at a moment
abbrev pub with_semaphores : Ticking → Moment → sem.Ticking → Ticking
with_semaphores s at t = record {
  semaphores = t.rows;
  conditions = without_clients (aborted t.happened) s.conditions;
  enrolments = enrolments_without (aborted t.happened) s.enrolments;
  happened = s.happened ++ map (λ happening. dated at (Semaphores happening)) t.happened;
}

-- it is met as semaphores have it
abbrev pub semaphore_met : Ticking → NamedDeadline → Option Ticking
semaphore_met s d = option_map (with_semaphores s d.at) (sem.met (record { rows = s.semaphores; happened = [] }) d)

-- ---- an evaluation

-- that became of the conditions, and was told of them, at a moment
abbrev pub with_events : Ticking → Moment → events.Ticking → Ticking
with_events s at t = record s {
  conditions = t.conditions;
  happened = s.happened ++ map (λ told. dated at (Turns told)) t.told;
}

-- the condition is evaluated as conditions have it
abbrev pub evaluated : Saying → Ticking → NamedDeadline → Ticking
evaluated cells s d = with_events s d.at (events.evaluated cells (events.begun s.conditions s.enrolments []) (d.at, d.key))

-- ---- a tick

-- a deadline is met at its moment
abbrev pub met : Saying → Ticking → NamedDeadline → Option Ticking
met cells s d = if d.kind == evaluation then Some (evaluated cells s d) else semaphore_met s d

-- the least of all deadlines is met, where it is at most that moment
abbrev pub next_met : Saying → Moment → Ticking → Option Ticking
next_met cells until s = option_and_then (met cells s) (next_due until s.semaphores s.conditions)

-- no more deadlines are met than there are entries, and than there are milliseconds for each condition
abbrev pub most_left : Moment → Ticking → ℕ
most_left until s = entries_left s.semaphores + sum_by (most_of until) (values_of s.conditions)

abbrev pub ticked_on : Saying → Moment → Ticking → Ticking
ticked_on cells until s = settle (next_met cells until) (most_left until s) s

abbrev pub begun : sem_rows.Rows → cond.Rows → enrol.Rows → Ticking
begun semaphores conditions enrolments = record { semaphores = semaphores; conditions = conditions; enrolments = enrolments; happened = [] }

-- every deadline up to that moment is met, one after the other
abbrev pub ticked : Saying → Moment → sem_rows.Rows → cond.Rows → enrol.Rows → Ticking
ticked cells until semaphores conditions enrolments = ticked_on cells until (begun semaphores conditions enrolments)
