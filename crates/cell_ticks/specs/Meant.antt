-- What code carries, in the words of ticks.
use Rattle.std.specs.Prelude.{◌≤◌, ⊤, nat_lt, Bool, false, List, [], ◌∷◌, Option, None}
use Rattle.std.specs.List.{AllByRecursion}
use Rattle.std.specs.Option.{option_map}
use Rattle.mms_types.specs.declared.moment.Moment.{Moment}
use Rattle.mms_time.specs.Semaphores as sem_rows
use Rattle.sem_ticks.specs.Renewed.{renewed}
use Rattle.event_cond.specs.Conditions as cond
use Rattle.event_cond.specs.Skips.{Saying}
use Rattle.event_enrol.specs.Enrolments as enrol
use Rattle.event_ticks.specs.Ticks as events
use Rattle.event_ticks.specs.declared.ticks.Loss.{Loss}
use Rattle.cell_ticks.specs.Ticks.{Ticking, aborted_one}
use Rattle.cell_ticks.specs.declared.happening.DatedHappening.{DatedHappening}
use Rattle.cell_ticks.specs.declared.happening.Happening.{Happening}
use Rattle.cell_ticks.specs.declared.happening.Happening.TheVariants.{Semaphores, Turns}
use Rattle.cell_ticks.specs.declared.ticking.DeviceTicked.{DeviceTicked}

-- what becomes of a device
abbrev pub state_of : Saying → Moment → DeviceTicked → sem_rows.Rows → cond.Rows → enrol.Rows → Ticking
state_of cells until t semaphores conditions enrolments = record {
  semaphores = renewed t.changed semaphores;
  conditions = (events.ticked cells until (events.begun conditions enrolments t.losses.items)).conditions;
  enrolments = (events.ticked cells until (events.begun conditions enrolments t.losses.items)).enrolments;
  happened = t.happened.items;
}

-- the client that is lost, if one is
abbrev pub loss_then : Moment → Happening → Option Loss
loss_then at (Semaphores happening) = option_map (λ client. record { at = at; client = client }) (aborted_one happening)
loss_then at (Turns told) = None

abbrev pub loss_in : DatedHappening → Option Loss
loss_in h = loss_then h.at h.happening

-- none happens before that moment
abbrev pub From : Moment → List DatedHappening → Type 0
From at xs = AllByRecursion (λ x. at.0 ≤ x.at.0) xs

-- none happens before what happened before it
abbrev pub AreInOrder : List DatedHappening → Type 0
AreInOrder [] = ⊤
AreInOrder (x ∷ xs) = From x.at xs × AreInOrder xs

-- the first, if there is one, is no earlier than that moment
abbrev pub StartsFrom : Moment → List DatedHappening → Type 0
StartsFrom at [] = ⊤
StartsFrom at (x ∷ xs) = at.0 ≤ x.at.0

abbrev pub starts_before : Moment → List DatedHappening → Bool
starts_before at [] = false
starts_before at (x ∷ xs) = nat_lt x.at.0 at.0
