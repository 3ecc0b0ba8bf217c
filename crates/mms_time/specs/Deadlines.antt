-- The deadlines of all semaphores (this profile's order: by moment, then control time-outs before acceptable delays, then by name, then by the entry's
-- number), and what becomes of a semaphore where one is met (ISO 9506-1, TakeControl, acceptableDelay and controlTimeOut).
use Rattle.std.specs.Prelude.{ℕ, Bool, nat_le, List, map, Option, None, Some, option_and_then, if◌then◌else◌}
use Rattle.std.specs.List.{flat_map}
use Rattle.std.specs.Map.{lookup}
use Rattle.std.specs.declared.cmp.Ordering.{Ordering}
use Rattle.std.specs.Ordering.{is_lt, nat_cmp, ordering_then}
use Rattle.mms_types.specs.Order.{key_eq, key_order}
use Rattle.mms_types.specs.declared.key.Key.{Key}
use Rattle.mms_types.specs.declared.moment.Moment.{Moment}
use Rattle.pool_sem.specs.Pools as pool
use Rattle.token_sem.specs.Semaphore.{after_expire, deadline_at, deadlines, earlier, expired_of, least, numbered}
use Rattle.token_sem.specs.declared.entry.Deadline.{Deadline}
use Rattle.token_sem.specs.declared.entry.Expired.{Expired}
use Rattle.token_sem.specs.declared.entry.SemEntry.{SemEntry}
use Rattle.mms_time.specs.Semaphores.{Rows, changed, entries_of}
use Rattle.mms_time.specs.declared.due.Due.{Due}
use Rattle.mms_time.specs.declared.row.Semaphore.{Semaphore}
use Rattle.mms_time.specs.declared.row.Semaphore.TheVariants.{Token, Pool}
use Rattle.mms_time.specs.declared.row.SemaphoreRow.{SemaphoreRow}

-- a deadline: its moment, its kind (`control_time_out` or `acceptable_delay`), the name of its semaphore and the number of its entry
pub record NamedDeadline : Type 0 where
  pub at : Moment
  pub kind : ℕ
  pub key : Key
  pub entry : ℕ

-- a deadline, with the name that it borrows
abbrev pub due_meant : Due → NamedDeadline
due_meant due = record { at = due.at; kind = due.kind; key = due.key.now; entry = due.entry }

-- a deadline of the semaphore of that name
abbrev pub named_deadline : Key → Deadline → NamedDeadline
named_deadline key d = record { at = d.at; kind = d.kind; key = key; entry = d.number }

abbrev pub deadlines_of : Key × SemaphoreRow → List NamedDeadline
deadlines_of row = map (named_deadline row.0) (deadlines (entries_of row.1))

-- the deadlines of all semaphores
abbrev pub all_deadlines : Rows → List NamedDeadline
all_deadlines rows = flat_map deadlines_of rows

abbrev pub due_order : NamedDeadline → NamedDeadline → Ordering
due_order a b = ordering_then (ordering_then (ordering_then (nat_cmp a.at.0 b.at.0) (nat_cmp a.kind b.kind)) (key_order a.key b.key)) (nat_cmp a.entry b.entry)

abbrev pub due_sooner : NamedDeadline → NamedDeadline → Bool
due_sooner a b = is_lt (due_order a b)

-- the least deadline of all
abbrev pub first_due : Rows → Option NamedDeadline
first_due rows = least due_sooner (all_deadlines rows)

abbrev pub until_only : Moment → Option NamedDeadline → Option NamedDeadline
until_only until None = None
until_only until (Some due) = if nat_le due.at.0 until.0 then Some due else None

-- the least of all deadlines, where it is at most that moment
abbrev pub next_due : Moment → Rows → Option NamedDeadline
next_due until rows = until_only until (first_due rows)

-- the lesser of two, if there are two, and of equal ones the first
abbrev pub pick : {A : Type 0} → (A → A → Bool) → Option A → Option A → Option A
pick less first None = first
pick less first (Some x) = earlier less first x

-- the deadline of the entry of that number in the semaphore of that name
abbrev pub deadline_in : Key → ℕ → Rows → Option Moment
deadline_in key number rows = option_and_then (λ row. deadline_at number (entries_of row)) (lookup (key_eq key) rows)

-- ---- a deadline is met: its entry goes, and the token that it had is granted to the entry that is served next, or is free

abbrev pub without_due : ℕ → Moment → Semaphore → Semaphore
without_due number now (Token s) = Token (after_expire s number now)
without_due number now (Pool p) = Pool (pool.after_expire p number now)

abbrev pub expire_after : Key → ℕ → Moment → Rows → Rows
expire_after key number now rows = changed (without_due number now) key rows

abbrev pub expired_from : SemEntry → Semaphore → Expired
expired_from e (Token s) = expired_of e s.entries
expired_from e (Pool p) = pool.expired_of e p.entries

abbrev pub expired_entry : Semaphore → Option SemEntry → Option Expired
expired_entry semaphore None = None
expired_entry semaphore (Some e) = Some (expired_from e semaphore)

abbrev pub expired_in : ℕ → SemaphoreRow → Option Expired
expired_in number row = expired_entry row.semaphore (numbered number (entries_of row))

-- what is told of it: whose entry it was, whether it waited, whether its client is lost, and who gets the token
abbrev pub expired : Key → ℕ → Rows → Option Expired
expired key number rows = option_and_then (expired_in number) (lookup (key_eq key) rows)
