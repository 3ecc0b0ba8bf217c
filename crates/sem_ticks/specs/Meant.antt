-- What code carries, in the words of ticks.
use Rattle.std.specs.Prelude.{◌≡◌, List, ◌++◌, Some, zip}
use Rattle.token_sem.specs.declared.entry.Expired.{Expired}
use Rattle.mms_time.specs.Deadlines.{NamedDeadline, expire_after, expired}
use Rattle.mms_time.specs.Semaphores.{Rows}
use Rattle.mms_types.specs.declared.moment.Moment.{Moment}
use Rattle.sem_ticks.specs.Dated.{Dating}
use Rattle.sem_ticks.specs.Drafts.{become, drafted}
use Rattle.sem_ticks.specs.Renewed.{renewed}
use Rattle.sem_ticks.specs.Ticks.{Ticking, expiry_told}
use Rattle.sem_ticks.specs.declared.drafts.Draft.{Draft}
use Rattle.sem_ticks.specs.declared.ticks.DatedTicked.{DatedTicked}
use Rattle.sem_ticks.specs.declared.ticks.Happening.{Happening}
use Rattle.sem_ticks.specs.declared.ticks.Meeting.{Meeting}
use Rattle.sem_ticks.specs.declared.ticks.NextOf.{NextOf}
use Rattle.sem_ticks.specs.declared.ticks.Ticked.{Ticked}

abbrev pub next_meant : NextOf → NamedDeadline
next_meant next = record { at = next.at; kind = next.kind; key = next.key; entry = next.entry }

abbrev pub meeting_of : Meeting → Ticking
meeting_of meeting = record { rows = meeting.semaphores; happened = meeting.happened.items }

-- drafts of a table
abbrev pub drafting_of : Rows → List Draft → List Happening → Ticking
drafting_of rows drafts happened = record { rows = become (drafted drafts) rows; happened = happened }

-- what became of a table
abbrev pub state_of : Ticked → Rows → Ticking
state_of ticked rows = record { rows = renewed ticked.changed rows; happened = ticked.happened.items }

-- the same with moments, one for each of what happened
abbrev pub with_moments : Ticking → List Moment → Dating
with_moments s moments = record { rows = s.rows; happened = zip moments s.happened }

abbrev pub dating_of : DatedTicked → Rows → Dating
dating_of t rows = with_moments (state_of t.ticked rows) t.moments.items

-- a deadline is met, and what became of its entry is told: that is all but the abort
pub record IsMet (s : Ticking) (d : NamedDeadline) (x : Expired) (t : Ticking) : Type 0 where
  pub found : expired d.key d.entry s.rows ≡ Some x
  pub rows : t.rows ≡ expire_after d.key d.entry d.at s.rows
  pub told : t.happened ≡ s.happened ++ expiry_told t.rows d.key x
