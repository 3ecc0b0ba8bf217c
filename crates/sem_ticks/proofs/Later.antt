-- Every deadline lies ahead, whatever a request, a cancel or a loss does.
use Rattle.std.proofs.Common.{◌≡◌, ℕ, ◌+◌, ◌<◌, ◌==◌, false, List, [], Option, arith}
use Rattle.std.proofs.lemmas.Bool.Decides.{nat_tests}
use Rattle.mms_types.specs.declared.key.Key.{Key}
use Rattle.mms_types.specs.declared.moment.Moment.{Moment}
use Rattle.mms_types.specs.declared.semaphore.DefineSemaphore.{DefineSemaphore}
use Rattle.mms_types.specs.declared.semaphore.TakeControl.{TakeControl}
use Rattle.mms_time.specs.Loss.{lost}
use Rattle.mms_time.specs.Semaphores.{Rows}
use Rattle.mms_time.specs.Services.{cancelled, define_after, deleted, relinquished, take_after}
use Rattle.sem_ticks.specs.Sound.{LieAhead}
use Rattle.sem_ticks.proofs.Dues.{each_cancelled, each_defined, each_deleted, each_lost, each_relinquished, each_taken}

module _ (now : Moment) where
  abbrev Ahead : Moment → Type 0
  Ahead m = now.0 < m.0

  past : (ms : ℕ) → (ms == 0) ≡ false → now.0 < now.0 + ms
  past ms e = grind (arith, nat_tests)

  pub ahead_taken : (client invoke : ℕ) (asked : TakeControl) (rows : Rows) → LieAhead now rows → LieAhead now (take_after client invoke now asked rows)
  ahead_taken client invoke asked rows all = each_taken Ahead now past client invoke asked rows all

  pub ahead_relinquished : (key : Key) (client : ℕ) (token : Option (List ℕ)) (rows : Rows) → LieAhead now rows → LieAhead now (relinquished key client token now rows)
  ahead_relinquished key client token rows all = each_relinquished Ahead now past key client token rows all

  pub ahead_cancelled : (key : Key) (number : ℕ) (rows : Rows) → LieAhead now rows → LieAhead now (cancelled key number rows)
  ahead_cancelled key number rows all = each_cancelled Ahead now past key number rows all

  pub ahead_defined : (client : ℕ) (asked : DefineSemaphore) (rows : Rows) → LieAhead now rows → LieAhead now (define_after client asked rows)
  ahead_defined client asked rows all = each_defined Ahead now past client asked rows all

  pub ahead_deleted : (key : Key) (rows : Rows) → LieAhead now rows → LieAhead now (deleted key rows)
  ahead_deleted key rows all = each_deleted Ahead now past key rows all

  pub ahead_lost : (client : ℕ) (rows : Rows) → LieAhead now rows → LieAhead now (lost client now rows)
  ahead_lost client rows all = each_lost Ahead now past client rows all

  pub none_ahead : LieAhead now []
  none_ahead = λ k e low. absurd (omega (arith, low))
