-- What happens to semaphores as time goes by, each with its moment: that of the deadline that is met.
use Rattle.std.specs.Prelude.{◌≤◌, ⊤, List, [], ◌∷◌, ◌++◌, map, Option, option_and_then, option_map}
use Rattle.std.specs.List.{All, AllByRecursion}
use Rattle.mms_types.specs.declared.moment.Moment.{Moment}
use Rattle.mms_time.specs.Deadlines.{NamedDeadline, all_deadlines, next_due}
use Rattle.mms_time.specs.Semaphores.{Rows}
use Rattle.sem_ticks.specs.Settling.{settle}
use Rattle.sem_ticks.specs.Ticks.{Ticking, entries_left, met}
use Rattle.sem_ticks.specs.declared.ticks.Happening.{Happening}

-- the semaphores, and what happened, each with its moment, in order
pub record Dating : Type 0 where
  pub rows : Rows
  pub happened : List (Moment × Happening)

abbrev pub dated_at : Moment → List Happening → List (Moment × Happening)
dated_at at happened = map (λ happening. (at, happening)) happened

-- that becomes of them at a moment, and that happens then
abbrev pub dated_to : Dating → Moment → Ticking → Dating
dated_to s at t = record { rows = t.rows; happened = s.happened ++ dated_at at t.happened }

-- a deadline is met, as it is without moments
abbrev pub met_dated : Dating → NamedDeadline → Option Dating
met_dated s d = option_map (dated_to s d.at) (met (record { rows = s.rows; happened = [] }) d)

-- the least of all deadlines is met, where it is at most that moment
abbrev pub next_dated : Moment → Dating → Option Dating
next_dated until s = option_and_then (met_dated s) (next_due until s.rows)

abbrev pub dated_on : Moment → Dating → Dating
dated_on until s = settle (next_dated until) (entries_left s.rows) s

-- every deadline up to that moment is met, one after the other
abbrev pub dated : Moment → Rows → Dating
dated until rows = dated_on until (record { rows = rows; happened = [] })

-- the same without its moments
abbrev pub undated : Dating → Ticking
undated s = record { rows = s.rows; happened = map (λ h. h.1) s.happened }

-- ---- the order of moments

-- no deadline lies before that moment
abbrev pub LieFrom : Moment → Rows → Type 0
LieFrom at rows = All (λ d. at.0 ≤ d.at.0) (all_deadlines rows)

-- nothing happens before that moment
abbrev pub HappenFrom : Moment → List (Moment × Happening) → Type 0
HappenFrom at happened = AllByRecursion (λ h. at.0 ≤ h.0.0) happened

-- nothing happens after that moment
abbrev pub HappenBy : Moment → List (Moment × Happening) → Type 0
HappenBy until happened = AllByRecursion (λ h. h.0.0 ≤ until.0) happened

-- nothing happens before what happened before it
abbrev pub IsInOrder : List (Moment × Happening) → Type 0
IsInOrder [] = ⊤
IsInOrder (h ∷ happened) = HappenFrom h.0 happened × IsInOrder happened
