-- A tick in two parts: what it comes to for semaphores, which conditions don't change, and what it comes to for conditions and enrollments, where the clients
-- are lost whose associations are aborted by the semaphores' part.
use Rattle.std.specs.Prelude.{nat_lt, List, [], ◌∷◌, ◌++◌, filter_map, map, Option, option_map, if◌then◌else◌}
use Rattle.mms_types.specs.declared.moment.Moment.{Moment}
use Rattle.mms_time.specs.Semaphores as sem_rows
use Rattle.sem_ticks.specs.Dated as sem
use Rattle.sem_ticks.specs.Ticks as sem_ticks
use Rattle.sem_ticks.specs.declared.ticks.Happening as sem_happening
use Rattle.event_cond.specs.Conditions as cond
use Rattle.event_cond.specs.Skips.{Saying}
use Rattle.event_enrol.specs.Enrolments as enrol
use Rattle.event_ticks.specs.Ticks as events
use Rattle.event_ticks.specs.declared.ticks.Loss.{Loss}
use Rattle.event_ticks.specs.declared.ticks.TurnTold.{TurnTold}
use Rattle.cell_ticks.specs.Ticks.{Ticking, aborted_one, dated}
use Rattle.cell_ticks.specs.declared.happening.DatedHappening.{DatedHappening}
use Rattle.cell_ticks.specs.declared.happening.Happening.TheVariants.{Semaphores, Turns}

-- ---- the clients that are lost

abbrev pub loss_of : Moment × sem_happening.Happening → Option Loss
loss_of h = option_map (λ client. record { at = h.0; client = client }) (aborted_one h.1)

abbrev pub losses_of : List (Moment × sem_happening.Happening) → List Loss
losses_of happened = filter_map loss_of happened

-- ---- the two parts

abbrev pub of_semaphores : Moment → sem_rows.Rows → List (Moment × sem_happening.Happening)
of_semaphores until semaphores = (sem.dated until semaphores).happened

abbrev pub of_events : Saying → Moment → sem_rows.Rows → cond.Rows → enrol.Rows → events.Ticking
of_events cells until semaphores conditions enrolments = events.ticked cells until (events.begun conditions enrolments (losses_of (of_semaphores until semaphores)))

-- ---- what happened in both

abbrev pub in_semaphores : Moment × sem_happening.Happening → DatedHappening
in_semaphores h = dated h.0 (Semaphores h.1)

abbrev pub turning : TurnTold → DatedHappening
turning told = dated told.turned.at (Turns told)

-- one more, which comes before whatever isn't earlier
abbrev pub put_in : DatedHappening → List DatedHappening → List DatedHappening
put_in x [] = x ∷ []
put_in x (y ∷ ys) = if nat_lt y.at.0 x.at.0 then y ∷ put_in x ys else x ∷ y ∷ ys

-- two lists in one, by moments, and of one moment those of the first list before those of the second
abbrev pub merged : List DatedHappening → List DatedHappening → List DatedHappening
merged [] ys = ys
merged (x ∷ xs) ys = put_in x (merged xs ys)

abbrev pub merged_parts : List (Moment × sem_happening.Happening) → List TurnTold → List DatedHappening
merged_parts happened told = merged (map in_semaphores happened) (map turning told)

-- both in one
abbrev pub in_parts : Saying → Moment → sem_rows.Rows → cond.Rows → enrol.Rows → Ticking
in_parts cells until semaphores conditions enrolments = record {
  semaphores = (sem_ticks.ticked until semaphores).rows;
  conditions = (of_events cells until semaphores conditions enrolments).conditions;
  enrolments = (of_events cells until semaphores conditions enrolments).enrolments;
  happened = merged_parts (of_semaphores until semaphores) (of_events cells until semaphores conditions enrolments).told;
}
