-- Of semaphores whose requests wait five milliseconds at most: who waits waits so long at most, and nobody is aborted.
use Rattle.std.proofs.Common.{◌&&◌, ◌≡◌, ℕ, ◌+◌, ◌≤◌, ◌==◌, Bool, true, false, List, Option, None, Some, option_and_then, refl, sym, ◌∙◌, ap, subst, arith}
use Rattle.std.specs.Map.{lookup}
use Rattle.mms_types.specs.Order.{key_eq}
use Rattle.mms_types.specs.declared.key.Key.{Key}
use Rattle.mms_types.specs.declared.moment.Moment.{Moment}
use Rattle.mms_types.specs.declared.semaphore.DefineSemaphore.{DefineSemaphore}
use Rattle.mms_types.specs.declared.semaphore.TakeControl.{TakeControl}
use Rattle.token_sem.specs.Semaphore.{aborts, deadline_after, is_owner, is_queued, numbered}
use Rattle.token_sem.specs.declared.entry.Expired.{Expired}
use Rattle.token_sem.specs.declared.entry.SemEntry.{SemEntry}
use Rattle.token_sem.proofs.Keeping.{among-find}
use Rattle.mms_time.specs.Deadlines.{expire_after, expired, expired_in}
use Rattle.mms_time.specs.Deadlines as due
use Rattle.mms_time.specs.Semaphores.{Rows, entries_in, entries_of}
use Rattle.mms_time.specs.Services.{ask_of, define_after, relinquished, take_after}
use Rattle.mms_time.specs.declared.row.Semaphore.{Semaphore}
use Rattle.mms_time.specs.declared.row.Semaphore.TheVariants.{Token, Pool}
use Rattle.mms_time.specs.declared.row.SemaphoreRow.{SemaphoreRow}
use Rattle.mms_time.proofs.EachEntry.{Each, IsKept, IsMade, RowsEach, each_among, each_defined, each_expired, each_relinquished, each_taken, found_each, rows_so}

-- ---- entries

-- it ends, at most five milliseconds after that moment
abbrev pub EndsSoon : Moment → Option Moment → Type 0
EndsSoon until None = ⊥
EndsSoon until (Some at) = at.0 ≤ until.0 + 5

-- no association is aborted by it, and where it waits it does so for five milliseconds at most
pub record IsSoon (until : Moment) (e : SemEntry) : Type 0 where
  pub spares : aborts e.abort ≡ false
  pub ends : is_queued e ≡ true → EndsSoon until e.deadline

abbrev pub RowsSoon : Moment → Rows → Type 0
RowsSoon until = RowsEach (IsSoon until)

-- ---- time goes by

ends-later : (first later : Moment) (o : Option Moment) → first.0 ≤ later.0 → EndsSoon first o → EndsSoon later o
ends-later first later None le by = by
ends-later first later (Some at) le by = omega (arith, le, by)

pub rows_later : (first later : Moment) (rows : Rows) → first.0 ≤ later.0 → RowsSoon first rows → RowsSoon later rows
rows_later first later rows le all =
    rows_so (IsSoon first) (IsSoon later) (λ e soon. record { spares = soon.spares; ends = λ q. ends-later first later e.deadline le (soon.ends q) }) rows all

-- ---- what is done at a moment

module _ (until now : Moment) where
  -- who owns or is hung doesn't wait
  keeps : IsKept (IsSoon until) now
  keeps = record {
    owns = λ e soon. record { spares = soon.spares; ends = λ q. absurd (cc q) };
    owns_named = λ token e soon. record { spares = soon.spares; ends = λ q. absurd (cc q) };
    hangs = λ e soon. record { spares = soon.spares; ends = λ q. absurd (cc q) };
  }

  pub soon_relinquished : (key : Key) (client : ℕ) (token : Option (List ℕ)) (rows : Rows) → RowsSoon until rows → RowsSoon until (relinquished key client token now rows)
  soon_relinquished = each_relinquished (IsSoon until) now keeps

  pub soon_expired : (key : Key) (number : ℕ) (rows : Rows) → RowsSoon until rows → RowsSoon until (expire_after key number now rows)
  soon_expired = each_expired (IsSoon until) now keeps

  pub soon_defined : (client : ℕ) (asked : DefineSemaphore) (rows : Rows) → RowsSoon until rows → RowsSoon until (define_after client asked rows)
  soon_defined = each_defined (IsSoon until) now keeps

-- a deadline that is met aborts nobody
pub met_spares : (until : Moment) (key : Key) (number : ℕ) (rows : Rows) (x : Expired) → RowsSoon until rows → expired key number rows ≡ Some x → x.abort ≡ false
met_spares until key number rows x all is = by_row (lookup (key_eq key) rows) refl is
  where
    spared : (b t : Bool) → t ≡ false → b && t ≡ false
    spared true t h = h
    spared false t h = refl

    by_kind : (s : Semaphore) (e : SemEntry) → aborts e.abort ≡ false → (due.expired_from e s).abort ≡ false
    by_kind (Token s) e spares = spared (is_owner e) (aborts e.abort) spares
    by_kind (Pool p) e spares = spared (is_owner e) (aborts e.abort) spares

    by_entry : (s : Semaphore) (o : Option SemEntry) → numbered number (entries_in s) ≡ o → Each (IsSoon until) (entries_in s) → due.expired_entry s o ≡ Some x → x.abort ≡ false
    by_entry s None e soon h = absurd (cc h)
    by_entry s (Some entry) e soon h =
        let from : due.expired_from entry s ≡ x = cc h in
        sym (ap (λ (y : Expired). y.abort) from)
        ∙ by_kind s entry (each_among (IsSoon until) (entries_in s) entry soon (among-find (λ y. y.number == number) (entries_in s) entry e).0).spares

    by_row : (o : Option SemaphoreRow) → lookup (key_eq key) rows ≡ o → option_and_then (expired_in number) o ≡ Some x → x.abort ≡ false
    by_row None e h = absurd (cc h)
    by_row (Some row) e h = by_entry row.semaphore (numbered number (entries_of row)) refl (found_each (IsSoon until) (key_eq key) rows row all e) h

-- ---- a token is asked for, for which the client waits five milliseconds at most

-- so does a request for a token, and it has nobody aborted
pub record AsksSoon (asked : TakeControl) : Type 0 where
  pub delay : asked.delay ≡ Some 5
  pub abort : asked.abort ≡ None

pub soon_taken : (now : Moment) (client invoke : ℕ) (asked : TakeControl) (rows : Rows) → AsksSoon asked → RowsSoon now rows → RowsSoon now (take_after client invoke now asked rows)
soon_taken now client invoke asked rows soon all = each_taken (IsSoon now) now (keeps now now) client invoke asked made rows all
  where
    waits_soon : EndsSoon now (deadline_after now asked.delay)
    waits_soon = subst (λ (o : Option ℕ). EndsSoon now (deadline_after now o)) (sym soon.delay) (omega arith)

    made : (place : Option ℕ) → IsMade (IsSoon now) now (ask_of client invoke place asked)
    made place = record {
      owns = λ n token. record { spares = ap aborts soon.abort; ends = λ q. absurd (cc q) };
      waits = λ n token. record { spares = ap aborts soon.abort; ends = λ q. waits_soon };
    }
