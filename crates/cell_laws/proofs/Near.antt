-- No deadline is further away than 32 bits tell, whatever a request, a cancel, a loss or a deadline that is met does.
use Rattle.std.proofs.Common.{◌≡◌, ℕ, ◌+◌, ◌≤◌, ◌==◌, Bool, true, false, List, Option, None, Some, option_and_then, if◌then◌else◌, refl, arith}
use Rattle.std.specs.List.{All}
use Rattle.std.specs.Map.{lookup}
use Rattle.mms_types.specs.Order.{key_eq}
use Rattle.mms_types.specs.declared.key.Key.{Key}
use Rattle.mms_types.specs.declared.moment.Moment.{Moment}
use Rattle.mms_types.specs.declared.semaphore.DefineSemaphore.{DefineSemaphore}
use Rattle.mms_types.specs.declared.semaphore.TakeControl.{TakeControl}
use Rattle.token_sem.specs.Semaphore.{deadline_after, numbered}
use Rattle.token_sem.specs.declared.entry.SemEntry.{SemEntry}
use Rattle.token_sem.proofs.Keeping.{among-find}
use Rattle.mms_time.specs.Deadlines.{all_deadlines, expire_after}
use Rattle.mms_time.specs.Loss.{lost}
use Rattle.mms_time.specs.Semaphores.{Rows, entries_of, entry_in}
use Rattle.mms_time.specs.Services.{ask_of, cancelled, define_after, deleted, relinquished, take_after}
use Rattle.mms_time.specs.declared.row.SemaphoreRow.{SemaphoreRow}
use Rattle.mms_time.proofs.EachEntry.{IsKept, IsMade, RowsEach, each_among, each_cancelled, each_defined, each_deleted, each_expired, each_lost, each_relinquished, each_taken, found_each, rows_so}
use Rattle.sem_ticks.specs.Ticks.{after_abort}
use Rattle.sem_ticks.proofs.Dues.{Ends, IsAt, lie_ahead}
use Rattle.event_cond.specs.Skips.{Saying}
use Rattle.cell_ticks.specs.Ticks.{Ticking, ticked_on}
use Rattle.cell_ticks.proofs.Next.{next_by_then}
use Rattle.cell_laws.proofs.Asked32.{AsksFew, Few}
use Rattle.cell_laws.proofs.Happened.{keeps-ticked}

-- ---- entries

-- at most so long after that moment
abbrev pub IsNearBy : Moment → Moment → Type 0
IsNearBy until at = at.0 ≤ until.0 + 4294967295

-- it ends at most so long after that moment
abbrev pub IsBy : Moment → Option Moment → Type 0
IsBy until = IsAt (IsNearBy until)

pub record IsNear (until : Moment) (e : SemEntry) : Type 0 where
  pub control : Few e.control
  pub deadline : IsBy until e.deadline

abbrev pub RowsNear : Moment → Rows → Type 0
RowsNear until = RowsEach (IsNear until)

module _ (until : Moment) where
  pub all_near : (rows : Rows) → RowsNear until rows → All (λ d. d.at.0 ≤ until.0 + 4294967295) (all_deadlines rows)
  all_near rows all = lie_ahead (IsNearBy until) rows (rows_so (IsNear until) (Ends (IsNearBy until)) (λ e near. near.deadline) rows all)

  pub entry_near : (key : Key) (number : ℕ) (rows : Rows) (e : SemEntry) → RowsNear until rows → entry_in key number rows ≡ Some e → IsBy until e.deadline
  entry_near key number rows e all is = by_row (lookup (key_eq key) rows) refl is
    where
      by_row : (o : Option SemaphoreRow) → lookup (key_eq key) rows ≡ o → option_and_then (λ row. numbered number (entries_of row)) o ≡ Some e → IsBy until e.deadline
      by_row None found h = absurd (cc h)
      by_row (Some row) found h =
          (each_among (IsNear until) (entries_of row) e (found_each (IsNear until) (key_eq key) rows row all found) (among-find (λ x. x.number == number) (entries_of row) e h).0).deadline

-- ---- time goes by

by-later : (first later : Moment) (o : Option Moment) → first.0 ≤ later.0 → IsBy first o → IsBy later o
by-later first later None le by = tt
by-later first later (Some at) le by = omega (arith, le, by)

pub rows-later : (first later : Moment) (rows : Rows) → first.0 ≤ later.0 → RowsNear first rows → RowsNear later rows
rows-later first later rows le all =
    rows_so (IsNear first) (IsNear later) (λ e near. record { control = near.control; deadline = by-later first later e.deadline le near.deadline }) rows all

-- ---- what is done at a moment

module _ (until now : Moment) (le : now.0 ≤ until.0) where
  -- a time begins now
  begins : (o : Option ℕ) → Few o → IsBy until (deadline_after now o)
  begins None few = tt
  begins (Some ms) few = by_test (ms == 0)
    where
      by_test : (b : Bool) → IsBy until (if b then None else Some (record { 0 = now.0 + ms }))
      by_test true = tt
      by_test false = omega (arith, le, few)

  keeps : IsKept (IsNear until) now
  keeps = record {
    owns = λ e near. record { control = near.control; deadline = begins e.control near.control };
    owns_named = λ token e near. record { control = near.control; deadline = begins e.control near.control };
    hangs = λ e near. record { control = near.control; deadline = near.deadline };
  }

  made : (client invoke : ℕ) (asked : TakeControl) → AsksFew asked → (place : Option ℕ) → IsMade (IsNear until) now (ask_of client invoke place asked)
  made client invoke asked few place = record {
    owns = λ n token. record { control = few.control; deadline = begins asked.control few.control };
    waits = λ n token. record { control = few.control; deadline = begins asked.delay few.delay };
  }

  pub near_taken : (client invoke : ℕ) (asked : TakeControl) (rows : Rows) → AsksFew asked → RowsNear until rows → RowsNear until (take_after client invoke now asked rows)
  near_taken client invoke asked rows few all = each_taken (IsNear until) now keeps client invoke asked (made client invoke asked few) rows all

  pub near_relinquished : (key : Key) (client : ℕ) (token : Option (List ℕ)) (rows : Rows) → RowsNear until rows → RowsNear until (relinquished key client token now rows)
  near_relinquished = each_relinquished (IsNear until) now keeps

  pub near_cancelled : (key : Key) (number : ℕ) (rows : Rows) → RowsNear until rows → RowsNear until (cancelled key number rows)
  near_cancelled = each_cancelled (IsNear until) now keeps

  pub near_defined : (client : ℕ) (asked : DefineSemaphore) (rows : Rows) → RowsNear until rows → RowsNear until (define_after client asked rows)
  near_defined = each_defined (IsNear until) now keeps

  pub near_deleted : (key : Key) (rows : Rows) → RowsNear until rows → RowsNear until (deleted key rows)
  near_deleted = each_deleted (IsNear until) now keeps

  pub near_lost : (client : ℕ) (rows : Rows) → RowsNear until rows → RowsNear until (lost client now rows)
  near_lost = each_lost (IsNear until) now keeps

  near_expired : (key : Key) (number : ℕ) (rows : Rows) → RowsNear until rows → RowsNear until (expire_after key number now rows)
  near_expired = each_expired (IsNear until) now keeps

  near_aborted : (aborts : Bool) (client : ℕ) (rows : Rows) → RowsNear until rows → RowsNear until (after_abort aborts client now rows)
  near_aborted true client rows all = near_lost client rows all
  near_aborted false client rows all = all

-- ---- every deadline up to a moment is met

pub near_ticked : (cells : Saying) (until : Moment) (s : Ticking) → RowsNear until s.semaphores → RowsNear until (ticked_on cells until s).semaphores
near_ticked cells until =
    keeps-ticked cells until (λ s. RowsNear until s.semaphores)
    (λ s d x due is all.
    let le = next_by_then until s.semaphores s.conditions d due in
    near_aborted until d.at le x.abort x.client (expire_after d.key d.entry d.at s.semaphores) (near_expired until d.at le d.key d.entry s.semaphores all))
    (λ s d all. all)
