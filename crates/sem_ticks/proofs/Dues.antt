-- What holds of the moment of each deadline, and of every moment after now, holds of each after a request, a cancel, a loss or a deadline that is met now.
use Rattle.std.proofs.Common.{◌≡◌, ℕ, zero, suc, ◌+◌, ◌==◌, ◌⊎◌, inl, inr, Bool, true, false, List, [], ◌∷◌, ◌++◌, map, Option, None, Some, if◌then◌else◌, refl, subst, arith}
use Rattle.std.specs.List.{All, cons_option}
use Rattle.mms_types.specs.declared.key.Key.{Key}
use Rattle.mms_types.specs.declared.moment.Moment.{Moment}
use Rattle.mms_types.specs.declared.semaphore.DefineSemaphore.{DefineSemaphore}
use Rattle.mms_types.specs.declared.semaphore.TakeControl.{TakeControl}
use Rattle.token_sem.specs.Semaphore.{deadline_after, deadline_with, deadlines}
use Rattle.token_sem.specs.declared.entry.SemEntry.{SemEntry}
use Rattle.token_sem.proofs.Least.{Stands}
use Rattle.mms_time.specs.Deadlines.{NamedDeadline, all_deadlines, deadlines_of, expire_after, named_deadline}
use Rattle.mms_time.specs.Loss.{lost}
use Rattle.mms_time.specs.Semaphores.{Rows, entries_of}
use Rattle.mms_time.specs.Services.{ask_of, cancelled, define_after, deleted, relinquished, take_after}
use Rattle.mms_time.proofs.EachEntry.{Each, IsKept, IsMade, RowsEach}
use Rattle.mms_time.proofs.EachEntry as of_each

module _ (P : Moment → Type 0) where
  abbrev pub IsAt : Option Moment → Type 0
  IsAt None = Unit {0}
  IsAt (Some at) = P at

  -- it holds of the entry's deadline, if it has one
  abbrev pub Ends : SemEntry → Type 0
  Ends e = IsAt e.deadline

  abbrev pub AreAt : List SemEntry → Type 0
  AreAt = Each Ends

  abbrev pub RowsAt : Rows → Type 0
  RowsAt = RowsEach Ends

  -- ---- as deadlines

  deadlines_at : (key : Key) (es : List SemEntry) → AreAt es → (d : NamedDeadline) → Stands (map (named_deadline key) (deadlines es)) d → P d.at
  deadlines_at key [] all d h = absurd h
  deadlines_at key (e ∷ es) all d h = by_deadline e.deadline all.0 h (deadlines_at key es all.1 d)
    where
      by_deadline : (o : Option Moment) → IsAt o
          → Stands (map (named_deadline key) (cons_option (deadline_with o e) (deadlines es))) d
          → (Stands (map (named_deadline key) (deadlines es)) d → P d.at) → P d.at
      by_deadline None at k rest = rest k
      by_deadline (Some m) at (inl same) rest = subst (λ (x : NamedDeadline). P x.at) same at
      by_deadline (Some m) at (inr k) rest = rest k

  stands_either : (xs ys : List NamedDeadline) (x : NamedDeadline) → Stands (xs ++ ys) x → Stands xs x ⊎ Stands ys x
  stands_either [] ys x h = inr h
  stands_either (z ∷ xs) ys x (inl h) = inl (inl h)
  stands_either (z ∷ xs) ys x (inr h) = elim (stands_either xs ys x h) [ inl i ↦ inl (inr i) | inr i ↦ inr i ]

  rows_ahead : (rows : Rows) → RowsAt rows → (d : NamedDeadline) → Stands (all_deadlines rows) d → P d.at
  rows_ahead [] all d h = absurd h
  rows_ahead (row ∷ rows) all d h = elim (stands_either (deadlines_of row) (all_deadlines rows) d h) [
    | inl here ↦ deadlines_at row.0 (entries_of row.1) all.0 d here
    | inr more ↦ rows_ahead rows all.1 d more
  ]

  all_ahead : (ds : List NamedDeadline) → ((d : NamedDeadline) → Stands ds d → P d.at) → All (λ d. P d.at) ds
  all_ahead [] each k e low = absurd (omega (arith, low))
  all_ahead (d ∷ ds) each zero e low = each d (inl refl)
  all_ahead (d ∷ ds) each (suc k) e low = all_ahead ds (λ x there. each x (inr there)) k e (omega (arith, low))

  -- it holds of all
  abbrev pub HaveEach : Rows → Type 0
  HaveEach rows = All (λ d. P d.at) (all_deadlines rows)

  pub lie_ahead : (rows : Rows) → RowsAt rows → HaveEach rows
  lie_ahead rows all = all_ahead (all_deadlines rows) (rows_ahead rows all)

  pub each_ahead : (ds : List NamedDeadline) → All (λ d. P d.at) ds → (d : NamedDeadline) → Stands ds d → P d.at
  each_ahead [] all d h = absurd h
  each_ahead (x ∷ ds) all d (inl same) = subst (λ (y : NamedDeadline). P y.at) same (all zero x (omega arith))
  each_ahead (x ∷ ds) all d (inr h) = each_ahead ds (λ k e low. all (suc k) e (omega (arith, low))) d h

  in_front : (xs ys : List NamedDeadline) (x : NamedDeadline) → Stands xs x → Stands (xs ++ ys) x
  in_front [] ys x h = absurd h
  in_front (z ∷ xs) ys x (inl h) = inl h
  in_front (z ∷ xs) ys x (inr h) = inr (in_front xs ys x h)

  in_back : (xs ys : List NamedDeadline) (x : NamedDeadline) → Stands ys x → Stands (xs ++ ys) x
  in_back [] ys x h = h
  in_back (z ∷ xs) ys x h = inr (in_back xs ys x h)

  entries_at : (key : Key) (es : List SemEntry) → ((d : NamedDeadline) → Stands (map (named_deadline key) (deadlines es)) d → P d.at) → AreAt es
  entries_at key [] each = tt
  entries_at key (e ∷ es) each = by_deadline e.deadline each (entries_at key es)
    where
      by_deadline : (o : Option Moment)
          → ((d : NamedDeadline) → Stands (map (named_deadline key) (cons_option (deadline_with o e) (deadlines es))) d → P d.at)
          → (((d : NamedDeadline) → Stands (map (named_deadline key) (deadlines es)) d → P d.at) → AreAt es) → IsAt o × AreAt es
      by_deadline None all rest = (tt, rest all)
      by_deadline (Some m) all rest = (all _ (inl refl), rest (λ d there. all d (inr there)))

  rows_at : (rows : Rows) → ((d : NamedDeadline) → Stands (all_deadlines rows) d → P d.at) → RowsAt rows
  rows_at [] each = tt
  rows_at (row ∷ rows) each = (
    entries_at row.0 (entries_of row.1) (λ d there. each d (in_front (deadlines_of row) (all_deadlines rows) d there)),
    rows_at rows (λ d there. each d (in_back (deadlines_of row) (all_deadlines rows) d there)),
  )

  pub ahead_rows : (rows : Rows) → HaveEach rows → RowsAt rows
  ahead_rows rows all = rows_at rows (each_ahead (all_deadlines rows) all)

-- ---- what requests, a cancel, a loss and time do, where it holds of every moment after now

module _ (P : Moment → Type 0) (now : Moment) (past : (ms : ℕ) → (ms == 0) ≡ false → P (record { 0 = now.0 + ms })) where
  -- a time begins now
  begins : (o : Option ℕ) → IsAt P (deadline_after now o)
  begins None = tt
  begins (Some ms) = by_test (ms == 0) refl
    where
      by_test : (b : Bool) → (ms == 0) ≡ b → IsAt P (if b then None else Some (record { 0 = now.0 + ms }))
      by_test true e = tt
      by_test false e = past ms e

  keeps : IsKept (Ends P) now
  keeps = record { owns = λ e at. begins e.control; owns_named = λ token e at. begins e.control; hangs = λ e at. at }

  made : (client invoke : ℕ) (asked : TakeControl) (place : Option ℕ) → IsMade (Ends P) now (ask_of client invoke place asked)
  made client invoke asked place = record { owns = λ n token. begins asked.control; waits = λ n token. begins asked.delay }

  pub each_taken : (client invoke : ℕ) (asked : TakeControl) (rows : Rows) → HaveEach P rows → HaveEach P (take_after client invoke now asked rows)
  each_taken client invoke asked rows all = lie_ahead P _ (of_each.each_taken (Ends P) now keeps client invoke asked (made client invoke asked) rows (ahead_rows P rows all))

  pub each_relinquished : (key : Key) (client : ℕ) (token : Option (List ℕ)) (rows : Rows) → HaveEach P rows → HaveEach P (relinquished key client token now rows)
  each_relinquished key client token rows all = lie_ahead P _ (of_each.each_relinquished (Ends P) now keeps key client token rows (ahead_rows P rows all))

  pub each_cancelled : (key : Key) (number : ℕ) (rows : Rows) → HaveEach P rows → HaveEach P (cancelled key number rows)
  each_cancelled key number rows all = lie_ahead P _ (of_each.each_cancelled (Ends P) now keeps key number rows (ahead_rows P rows all))

  pub each_defined : (client : ℕ) (asked : DefineSemaphore) (rows : Rows) → HaveEach P rows → HaveEach P (define_after client asked rows)
  each_defined client asked rows all = lie_ahead P _ (of_each.each_defined (Ends P) now keeps client asked rows (ahead_rows P rows all))

  pub each_deleted : (key : Key) (rows : Rows) → HaveEach P rows → HaveEach P (deleted key rows)
  each_deleted key rows all = lie_ahead P _ (of_each.each_deleted (Ends P) now keeps key rows (ahead_rows P rows all))

  pub each_lost : (client : ℕ) (rows : Rows) → HaveEach P rows → HaveEach P (lost client now rows)
  each_lost client rows all = lie_ahead P _ (of_each.each_lost (Ends P) now keeps client rows (ahead_rows P rows all))

  pub each_expired : (key : Key) (number : ℕ) (rows : Rows) → HaveEach P rows → HaveEach P (expire_after key number now rows)
  each_expired key number rows all = lie_ahead P _ (of_each.each_expired (Ends P) now keeps key number rows (ahead_rows P rows all))
