-- What is kept beside the semaphores, so that they needn't be gone through (this profile's choice).
use Rattle.std.specs.Prelude.{◌≡◌, ◌≤◌, nat_lt, Bool, true, Option, None, Some, is_some, if◌then◌else◌}
use Rattle.std.specs.List.{AllByRecursion}
use Rattle.mms_types.specs.declared.moment.Moment.{Moment}
use Rattle.token_sem.specs.declared.entry.Deadline.{Deadline}
use Rattle.mms_time.specs.Deadlines.{deadlines_of, next_due}
use Rattle.mms_time.specs.Semaphores.{Rows}

-- no deadline of any semaphore is before that moment
abbrev pub NoneBefore : Moment → Rows → Type 0
NoneBefore at rows = AllByRecursion (λ row. AllByRecursion (λ d. at.0 ≤ d.at.0) (deadlines_of row)) rows

-- where it is known, a deadline is at most that moment
abbrev pub IsThere : Bool → Moment → Rows → Type 0
IsThere known at rows = known ≡ true → is_some (next_due at rows) ≡ true

-- that moment, or that of the deadline where it is sooner
abbrev pub sooner_of : Moment → Option Deadline → Moment
sooner_of at None = at
sooner_of at (Some d) = if nat_lt d.at.0 at.0 then d.at else at
