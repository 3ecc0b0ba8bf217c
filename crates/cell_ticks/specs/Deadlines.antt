-- The deadlines of a device: those of its semaphores, and the evaluations of its event conditions (this profile's order: by moment, then control time-outs
-- before acceptable delays and these before evaluations, then by name, then by the entry's number).
use Rattle.std.specs.Prelude.{ℕ, List, ◌++◌, map, Option}
use Rattle.mms_types.specs.declared.key.Key.{Key}
use Rattle.mms_types.specs.declared.moment.Moment.{Moment}
use Rattle.token_sem.specs.Semaphore.{least}
use Rattle.mms_time.specs.Deadlines as sem
use Rattle.mms_time.specs.Deadlines.{NamedDeadline, due_sooner, until_only}
use Rattle.mms_time.specs.Semaphores as sem_rows
use Rattle.event_cond.specs.Conditions as cond
use Rattle.event_cond.specs.Evaluations.{evaluations}

-- the kind of a deadline that is an evaluation, beside `control_time_out` and `acceptable_delay`
abbrev pub evaluation : ℕ
evaluation = 2

-- the evaluation of the condition of that name, which has no entries
abbrev pub evaluation_due : Moment × Key → NamedDeadline
evaluation_due e = record { at = e.0; kind = evaluation; key = e.1; entry = 0 }

-- the deadlines of semaphores and conditions
abbrev pub all_deadlines : sem_rows.Rows → cond.Rows → List NamedDeadline
all_deadlines semaphores conditions = sem.all_deadlines semaphores ++ map evaluation_due (evaluations conditions)

-- the least of them
abbrev pub first_due : sem_rows.Rows → cond.Rows → Option NamedDeadline
first_due semaphores conditions = least due_sooner (all_deadlines semaphores conditions)

-- the least of them, where it is at most that moment
abbrev pub next_due : Moment → sem_rows.Rows → cond.Rows → Option NamedDeadline
next_due until semaphores conditions = until_only until (first_due semaphores conditions)
