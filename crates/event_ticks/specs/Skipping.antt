-- What a tick comes to for event conditions and enrollments, where each condition is met at its first evaluation alone.
use Rattle.std.specs.Prelude.{nat_le, Bool, true, not, ◌&&◌, List, [], ◌∷◌, ◌++◌, filter_map, Option, None, Some, if◌then◌else◌}
use Rattle.mms_types.specs.Order.{scope_eq}
use Rattle.mms_types.specs.declared.condition.Turned.{Turned}
use Rattle.mms_types.specs.declared.key.Key.{Key}
use Rattle.mms_types.specs.declared.key.Scope.TheVariants.{Association}
use Rattle.mms_types.specs.declared.moment.Moment.{Moment}
use Rattle.event_cond.specs.Conditions as cond
use Rattle.event_cond.specs.Deletion as cond_lost
use Rattle.event_cond.specs.Skips.{Saying, after_skip, first_turns}
use Rattle.event_enrol.specs.Enrolments as enrol
use Rattle.event_ticks.specs.Ticks.{Ticking, told_of}
use Rattle.event_ticks.specs.declared.ticks.Loss.{Loss}
use Rattle.event_ticks.specs.declared.ticks.TurnTold.{TurnTold}

-- ---- losses up to a moment

abbrev pub conditions_left : Moment → List Loss → cond.Rows → cond.Rows
conditions_left until [] rows = rows
conditions_left until (loss ∷ later) rows = if nat_le loss.at.0 until.0 then conditions_left until later (cond_lost.without_client loss.client rows) else rows

abbrev pub enrolments_left : Moment → List Loss → enrol.Rows → enrol.Rows
enrolments_left until [] rows = rows
enrolments_left until (loss ∷ later) rows = if nat_le loss.at.0 until.0 then enrolments_left until later (enrol.without_client loss.client rows) else rows

abbrev pub losses_left : Moment → List Loss → List Loss
losses_left until [] = []
losses_left until (loss ∷ later) = if nat_le loss.at.0 until.0 then losses_left until later else loss ∷ later

-- the condition of that name isn't of an association that is lost by then
abbrev pub is_left : Moment → List Loss → Key → Bool
is_left until [] key = true
is_left until (loss ∷ later) key = if nat_le loss.at.0 until.0 then not (scope_eq key.scope (Association loss.client)) && is_left until later key else true

-- ---- what is told

-- a transition is told where its condition is left at its moment, to the enrollments that are left then
abbrev pub told_left : List Loss → enrol.Rows → Turned → Option TurnTold
told_left losses enrolments turned = if is_left turned.at losses turned.condition then Some (told_of (enrolments_left turned.at losses enrolments) turned) else None

abbrev pub skipping_told : Saying → Moment → Ticking → List TurnTold
skipping_told cells until s = filter_map (told_left s.losses s.enrolments) (first_turns until cells s.conditions)

-- ---- all

abbrev pub skipping : Saying → Moment → Ticking → Ticking
skipping cells until s = record {
  conditions = conditions_left until s.losses (after_skip until cells s.conditions);
  enrolments = enrolments_left until s.losses s.enrolments;
  losses = losses_left until s.losses;
  told = s.told ++ skipping_told cells until s;
}
