-- Time goes by for semaphores: every deadline up to a moment is met at its own moment, also those that arise meanwhile (ISO 9506-1, TakeControl,
-- acceptableDelay, controlTimeOut and abortOnTimeOut).
use Rattle.std.specs.Prelude.{ℕ, Bool, List, [], ◌∷◌, ◌++◌, map, length, Option, None, Some, option_and_then, option_map, if◌then◌else◌}
use Rattle.std.specs.List.{sum_by}
use Rattle.std.specs.Map.{values_of}
use Rattle.mms_types.specs.declared.key.Key.{Key}
use Rattle.mms_types.specs.declared.moment.Moment.{Moment}
use Rattle.token_sem.specs.declared.entry.Expired.{Expired}
use Rattle.token_sem.specs.declared.entry.Grant.{Grant}
use Rattle.mms_time.specs.Deadlines.{NamedDeadline, expire_after, expired, next_due}
use Rattle.mms_time.specs.Loss.{lost}
use Rattle.mms_time.specs.Semaphores.{Rows, entries_of}
use Rattle.sem_ticks.specs.Granted.{granted, lost_granted}
use Rattle.sem_ticks.specs.Settling.{settle}
use Rattle.sem_ticks.specs.declared.ticks.Happening.{Happening}
use Rattle.sem_ticks.specs.declared.ticks.Happening.TheVariants.{WaitEnds, Grants, Aborts}

-- the semaphores, and what happened, in order
pub record Ticking : Type 0 where
  pub rows : Rows
  pub happened : List Happening

abbrev pub grant_told : Rows → Key → Option Grant → List Happening
grant_told rows key None = []
grant_told rows key (Some grant) = Grants (granted rows (key, grant)) ∷ []

-- in the semaphore of that name a wait ends, or a token is freed, and granted to the entry that is served next, if there is one
abbrev pub expiry_told : Rows → Key → Expired → List Happening
expiry_told rows key x = if x.waited then WaitEnds x.client x.invoke ∷ [] else grant_told rows key x.grant

-- an owner's association may have to be aborted then: its client is lost
abbrev pub after_abort : Bool → ℕ → Moment → Rows → Rows
after_abort aborts client now rows = if aborts then lost client now rows else rows

abbrev pub abort_told : Bool → ℕ → Moment → Rows → List Happening
abort_told aborts client now rows = if aborts then Aborts client ∷ map Grants (lost_granted client now rows) else []

-- a deadline is met at its moment, of which that is told
abbrev pub met_as : Ticking → NamedDeadline → Expired → Ticking
met_as s d x = record {
  rows = after_abort x.abort x.client d.at (expire_after d.key d.entry d.at s.rows);
  happened = s.happened ++ (expiry_told (expire_after d.key d.entry d.at s.rows) d.key x ++ abort_told x.abort x.client d.at (expire_after d.key d.entry d.at s.rows));
}

abbrev pub met : Ticking → NamedDeadline → Option Ticking
met s d = option_map (met_as s d) (expired d.key d.entry s.rows)

-- the least of all deadlines is met, where it is at most that moment
abbrev pub next_met : Moment → Ticking → Option Ticking
next_met until s = option_and_then (met s) (next_due until s.rows)

-- each deadline that is met takes an entry away
abbrev pub entries_left : Rows → ℕ
entries_left rows = sum_by (λ row. length (entries_of row)) (values_of rows)

-- so no more are met than there are entries
abbrev pub ticked_on : Moment → Ticking → Ticking
ticked_on until s = settle (next_met until) (entries_left s.rows) s

-- every deadline up to that moment is met, one after the other
abbrev pub ticked : Moment → Rows → Ticking
ticked until rows = ticked_on until (record { rows = rows; happened = [] })
