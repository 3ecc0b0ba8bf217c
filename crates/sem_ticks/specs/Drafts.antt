-- Semaphores that are copied, each to change by itself, and what all semaphores have become.
use Rattle.std.specs.Prelude.{◌≡◌, ℕ, Bool, false, nat_le, nat_lt, ◌==◌, ◌&&◌, ◌||◌, List, filter, map, Option, None, Some, IfSome, slice_get, if◌then◌else◌, option_map, unwrap_or}
use Rattle.std.specs.Borrow.{Bor}
use Rattle.std.specs.List.{All, AllPairs}
use Rattle.std.specs.Map.{keys_of, lookup}
use Rattle.std.specs.declared.cmp.Ordering.TheVariants.{Less}
use Rattle.mms_types.specs.Order.{key_eq, key_order}
use Rattle.mms_types.specs.declared.key.Key.{Key}
use Rattle.mms_types.specs.declared.moment.Moment.{Moment}
use Rattle.token_sem.specs.Semaphore.{deadline_at, first_deadline}
use Rattle.token_sem.specs.declared.entry.Deadline.{Deadline}
use Rattle.mms_time.specs.Deadlines.{NamedDeadline, due_meant}
use Rattle.mms_time.specs.Semaphores.{Rows, entries_of}
use Rattle.mms_time.specs.declared.row.SemaphoreRow.{SemaphoreRow}
use Rattle.sem_ticks.specs.declared.drafts.Draft.{Draft}
use Rattle.sem_ticks.specs.declared.drafts.Next.{Next}

abbrev pub due_by : Moment → Option Deadline → Bool
due_by until None = false
due_by until (Some d) = nat_le d.at.0 until.0

-- a deadline of the semaphore is at most that moment
abbrev pub is_due : Moment → SemaphoreRow → Bool
is_due until row = due_by until (first_deadline (entries_of row))

-- the semaphores that are due
abbrev pub due_rows : Moment → Rows → Rows
due_rows until rows = filter (λ row. is_due until row.1) rows

-- a name stands at that place
abbrev pub IsPlaced : Rows → Bor Key × ℕ → Type 0
IsPlaced rows p = slice_get (keys_of rows) p.1 ≡ Some p.0.now

-- a copy, under its name
abbrev pub named : Draft → Key × SemaphoreRow
named d = (d.key.now, d.row)

abbrev pub drafted : List Draft → Rows
drafted drafts = map named drafts

-- what it has become, with its place
abbrev pub placed : Draft → ℕ × SemaphoreRow
placed d = (d.place, d.row)

-- each semaphore is what it has become, where one of its name is among those, and else as it was
abbrev pub become : Rows → Rows → Rows
become changed rows = map (λ row. (row.0, unwrap_or (lookup (key_eq row.0) changed) row.1)) rows

-- the semaphore of the draft's name stands at its place
abbrev pub HasPlace : Rows → Draft → Type 0
HasPlace rows d = slice_get (keys_of rows) d.place ≡ Some d.key.now

-- its least deadline is kept beside it
pub record KeepsLeast (d : Draft) : Type 0 where
  pub least : d.due ≡ first_deadline (entries_of d.row)
  pub stands : IfSome d.due (λ x. deadline_at x.number (entries_of d.row) ≡ Some x.at)

-- their names ascend
abbrev pub Ascend : List Draft → Type 0
Ascend drafts = AllPairs (λ a b. key_order a b ≡ Less) (keys_of (drafted drafts))

-- whatever is due up to a moment is among the drafts, in order of its name
pub record AreDrafts (until : Moment) (rows : Rows) (drafts : List Draft) : Type 0 where
  pub places : All (HasPlace rows) drafts
  pub ascend : Ascend drafts
  pub least : All KeepsLeast drafts
  pub others : All (λ row. lookup (key_eq row.0) (drafted drafts) ≡ None → is_due until row.1 ≡ false) rows

-- ---- the next deadline of drafts

abbrev pub next_named : Next → NamedDeadline
next_named next = due_meant next.due

abbrev pub next_at : ℕ → Draft → Deadline → Next
next_at place d x = record { place = place; due = record { at = x.at; kind = x.kind; key = d.key; entry = x.number } }

-- it comes before that one by its moment and its kind
abbrev pub comes_sooner : Deadline → Next → Bool
comes_sooner x n = nat_lt x.at.0 n.due.at.0 || (x.at.0 == n.due.at.0 && nat_lt x.kind n.due.kind)

abbrev pub next_with : Option Next → ℕ → Draft → Option Deadline → Option Next
next_with first place d None = first
next_with None place d (Some x) = Some (next_at place d x)
next_with (Some n) place d (Some x) = if comes_sooner x n then Some (next_at place d x) else Some n

-- the sooner of the first of those before, and of one draft more
abbrev pub sooner_next : Option Next → ℕ → Draft → Option Next
sooner_next first place d = next_with first place d d.due

-- the name of a draft, and its least deadline
abbrev pub key_and_due : Draft → Key × Option Deadline
key_and_due d = (d.key.now, d.due)

abbrev pub of_next : Next → Key × Option Deadline
of_next n = (n.due.key.now, Some (record { at = n.due.at; kind = n.due.kind; number = n.due.entry }))

-- that deadline is the least of the draft at its place
abbrev pub IsNextOf : List Draft → Next → Type 0
IsNextOf drafts n = option_map key_and_due (slice_get drafts n.place) ≡ Some (of_next n)
