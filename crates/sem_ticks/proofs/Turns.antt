-- Time goes by from one deadline to the next, whatever the number of turns.
use Rattle.std.proofs.Common.{◌≡◌, ◌≢◌, ◌∙◌, ap, ℕ, ◌≤◌, None, Some, option_and_then, option_map, arith}
use Rattle.mms_types.specs.declared.moment.Moment.{Moment}
use Rattle.token_sem.specs.declared.entry.Expired.{Expired}
use Rattle.mms_time.specs.Deadlines.{NamedDeadline, expired, next_due}
use Rattle.mms_time.specs.Semaphores.{Rows}
use Rattle.sem_ticks.specs.Dated.{Dating, dated_on, next_dated}
use Rattle.sem_ticks.specs.Settling.{settle}
use Rattle.sem_ticks.specs.Sound.{AreSound}
use Rattle.sem_ticks.specs.Ticks.{Ticking, entries_left, met, met_as, next_met, ticked_on}
use Rattle.sem_ticks.proofs.Ahead.{due_stands, none_due, not_none}
use Rattle.sem_ticks.proofs.Dated.{dated_falls}
use Rattle.sem_ticks.proofs.Fewer.{falls}
use Rattle.sem_ticks.proofs.Kept.{keeps_ticked}
use Rattle.sem_ticks.proofs.Settling.{settle-ends, settle-enough, settle-none, settle-step}

module _ (until : Moment) where
  pub rests : (s : Ticking) → next_due until s.rows ≡ None → ticked_on until s ≡ s
  rests s none = settle-none (next_met until) (entries_left s.rows) s (ap (option_and_then (met s)) none)

  pub meets : (s : Ticking) (d : NamedDeadline) (x : Expired) → next_due until s.rows ≡ Some d → expired d.key d.entry s.rows ≡ Some x → ticked_on until s ≡ ticked_on until (met_as s d x)
  meets s d x due found =
      settle-step (next_met until) (λ t. entries_left t.rows) (falls until) s (met_as s d x) (ap (option_and_then (met s)) due ∙ ap (option_map (met_as s d)) found)

  pub is_there : (rows : Rows) (d : NamedDeadline) → AreSound rows → next_due until rows ≡ Some d → expired d.key d.entry rows ≢ None
  is_there rows d sound due = not_none rows d sound (due_stands until rows d due)

  pub none_left : (s : Ticking) → AreSound s.rows → next_due until (ticked_on until s).rows ≡ None
  none_left s sound =
      none_due until (ticked_on until s) (keeps_ticked until s sound)
      (settle-ends (next_met until) (λ t. entries_left t.rows) (falls until) (entries_left s.rows) s (omega arith))

  pub enough : (s : Ticking) (turns : ℕ) → entries_left s.rows ≤ turns → settle (next_met until) turns s ≡ ticked_on until s
  enough s turns le = settle-enough (next_met until) (λ t. entries_left t.rows) (falls until) turns (entries_left s.rows) s le (omega arith)

  pub enough_dated : (s : Dating) (turns : ℕ) → entries_left s.rows ≤ turns → settle (next_dated until) turns s ≡ dated_on until s
  enough_dated s turns le = settle-enough (next_dated until) (λ t. entries_left t.rows) (dated_falls until) turns (entries_left s.rows) s le (omega arith)
