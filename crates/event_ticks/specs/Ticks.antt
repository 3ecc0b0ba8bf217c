-- Time goes by for event conditions and enrollments: every evaluation up to a moment is made at its own moment, also those that arise meanwhile, and clients
-- are lost meanwhile (ISO 9506-1, event condition, monitored).
use Rattle.std.specs.Prelude.{ℕ, ◌+◌, ◌-◌, nat_le, nat_lt, Bool, false, List, [], ◌∷◌, ◌++◌, length, Option, None, Some, if◌then◌else◌}
use Rattle.std.specs.List.{sum_by}
use Rattle.std.specs.Map.{values_of}
use Rattle.std.specs.Option.{option_map_or}
use Rattle.mms_types.specs.declared.condition.Turned.{Turned}
use Rattle.mms_types.specs.declared.key.Key.{Key}
use Rattle.mms_types.specs.declared.moment.Moment.{Moment}
use Rattle.event_cond.specs.Conditions as cond
use Rattle.event_cond.specs.Conditions.{after_evaluate, evaluate_told, named}
use Rattle.event_cond.specs.Deletion as cond_lost
use Rattle.event_cond.specs.Evaluations.{next_evaluation, next_of}
use Rattle.event_cond.specs.Skips.{Saying, says}
use Rattle.event_cond.specs.declared.condition.Condition.{Condition}
use Rattle.event_enrol.specs.Enrolments as enrol
use Rattle.event_enrol.specs.Enrolments.{notices}
use Rattle.event_ticks.specs.Settling.{settle}
use Rattle.event_ticks.specs.declared.ticks.Loss.{Loss}
use Rattle.event_ticks.specs.declared.ticks.TurnTold.{TurnTold}

-- conditions and enrollments, the losses to come, in order of their moments, and what was told, in order
pub record Ticking : Type 0 where
  pub conditions : cond.Rows
  pub enrolments : enrol.Rows
  pub losses : List Loss
  pub told : List TurnTold

-- ---- an evaluation

-- what the cell says that the condition of that name watches
abbrev pub says_named : Saying → Key → cond.Rows → Bool
says_named cells key rows = option_map_or (says cells) (named key rows) false

-- a transition is told to the enrollments as they are then
abbrev pub told_of : enrol.Rows → Turned → TurnTold
told_of enrolments turned = record { turned = turned; notices = notices turned enrolments }

abbrev pub told_if : enrol.Rows → Option Turned → List TurnTold
told_if enrolments None = []
told_if enrolments (Some turned) = told_of enrolments turned ∷ []

-- a condition is evaluated at its moment, and a transition is told
abbrev pub evaluated : Saying → Ticking → Moment × Key → Ticking
evaluated cells s (at, key) = record s {
  conditions = after_evaluate key at (says_named cells key s.conditions) s.conditions;
  told = s.told ++ told_if s.enrolments (evaluate_told key at (says_named cells key s.conditions) s.conditions);
}

-- ---- a loss

-- a client is lost, and nobody is told: its enrollments go, then the conditions and enrollments of its association
abbrev pub lost : Ticking → Loss → List Loss → Ticking
lost s loss later = record s {
  conditions = cond_lost.without_client loss.client s.conditions;
  enrolments = enrol.without_client loss.client s.enrolments;
  losses = later;
}

-- ---- what comes next, up to a moment: a loss before the evaluations of its moment

abbrev pub next_evaluated : Saying → Moment → Ticking → Option (Moment × Key) → Option Ticking
next_evaluated cells until s None = None
next_evaluated cells until s (Some e) = if nat_le e.0.0 until.0 then Some (evaluated cells s e) else None

abbrev pub next_lost : Moment → Ticking → Loss → List Loss → Option Ticking
next_lost until s loss later = if nat_le loss.at.0 until.0 then Some (lost s loss later) else None

abbrev pub is_before : Option (Moment × Key) → Loss → Bool
is_before None loss = false
is_before (Some e) loss = nat_lt e.0.0 loss.at.0

abbrev pub next_of_both : Saying → Moment → Ticking → Option (Moment × Key) → List Loss → Option Ticking
next_of_both cells until s e [] = next_evaluated cells until s e
next_of_both cells until s e (loss ∷ later) = if is_before e loss then next_evaluated cells until s e else next_lost until s loss later

abbrev pub next_met : Saying → Moment → Ticking → Option Ticking
next_met cells until s = next_of_both cells until s (next_evaluation s.conditions) s.losses

-- ---- a tick

-- no more evaluations of a condition are due than there are milliseconds
abbrev pub most_from : Moment → Option Moment → ℕ
most_from until None = 0
most_from until (Some at) = until.0 + 1 - at.0

abbrev pub most_of : Moment → Condition → ℕ
most_of until c = most_from until (next_of c)

abbrev pub most_left : Moment → Ticking → ℕ
most_left until s = length s.losses + sum_by (most_of until) (values_of s.conditions)

-- every evaluation and every loss up to that moment, one after the other
abbrev pub ticked : Saying → Moment → Ticking → Ticking
ticked cells until s = settle (next_met cells until) (most_left until s) s

abbrev pub begun : cond.Rows → enrol.Rows → List Loss → Ticking
begun conditions enrolments losses = record { conditions = conditions; enrolments = enrolments; losses = losses; told = [] }
