-- Two ticks with nothing between are one.
use Rattle.std.proofs.Common.{◌≡◌, ℕ, zero, suc, ◌<◌, ◌≤◌, Bool, true, false, nat_le, Option, None, Some, option_and_then, if◌then◌else◌, refl, sym, ◌∙◌, ap, arith}
use Rattle.std.proofs.lemmas.Bool.Decides.{nat_tests}
use Rattle.mms_types.specs.declared.moment.Moment.{Moment}
use Rattle.mms_time.specs.Deadlines.{NamedDeadline, first_due, next_due, until_only}
use Rattle.sem_ticks.specs.Ticks.{Ticking, entries_left, met, next_met, ticked_on}
use Rattle.sem_ticks.proofs.Fewer.{falls}
use Rattle.sem_ticks.proofs.Settling.{settle-none, settle-step}

-- nothing is due
pub tick_rests : (until : Moment) (s : Ticking) → next_met until s ≡ None → ticked_on until s ≡ s
tick_rests until s none = settle-none (next_met until) (entries_left s.rows) s none

-- the least deadline is met, and it goes on
pub tick_meets : (until : Moment) (s t : Ticking) → next_met until s ≡ Some t → ticked_on until s ≡ ticked_on until t
tick_meets until s t some = settle-step (next_met until) (λ u. entries_left u.rows) (falls until) s t some

-- what is due is due later too
later_due : (first later : Moment) (o : Option NamedDeadline) (d : NamedDeadline) → first.0 ≤ later.0 → until_only first o ≡ Some d → until_only later o ≡ Some d
later_due first later None d le e = absurd (cc e)
later_due first later (Some x) d le e = by_test (nat_le x.at.0 first.0) refl e
  where
    by_test : (b : Bool) → nat_le x.at.0 first.0 ≡ b → (if b then Some x else None) ≡ Some d → until_only later (Some x) ≡ Some d
    by_test true t g =
        let yes : nat_le x.at.0 later.0 ≡ true = grind (arith, nat_tests) in
        ap (λ (b : Bool). if b then Some x else None) yes ∙ g
    by_test false t g = absurd (cc g)

later_met : (first later : Moment) (s t : Ticking) → first.0 ≤ later.0 → next_met first s ≡ Some t → next_met later s ≡ Some t
later_met first later s t le is = by_due (next_due first s.rows) refl is
  where
    by_due : (o : Option NamedDeadline) → next_due first s.rows ≡ o → option_and_then (met s) o ≡ Some t → next_met later s ≡ Some t
    by_due None e h = absurd (cc h)
    by_due (Some d) e h = ap (option_and_then (met s)) (later_due first later (first_due s.rows) d le e) ∙ h

pub twice : (first later : Moment) (s : Ticking) → first.0 ≤ later.0 → ticked_on later (ticked_on first s) ≡ ticked_on later s
twice first later s le = by_bound (suc (entries_left s.rows)) s (omega arith)
  where
    by_bound : (n : ℕ) (s : Ticking) → entries_left s.rows < n → ticked_on later (ticked_on first s) ≡ ticked_on later s
    by_bound zero s lt = absurd (omega (arith, lt))
    by_bound (suc n) s lt = by_next (next_met first s) refl (λ t. by_bound n t)
      where
        by_next : (o : Option Ticking) → next_met first s ≡ o → ((t : Ticking) → entries_left t.rows < n → ticked_on later (ticked_on first t) ≡ ticked_on later t)
            → ticked_on later (ticked_on first s) ≡ ticked_on later s
        by_next None e ih = ap (ticked_on later) (tick_rests first s e)
        by_next (Some t) e ih =
            let fall = falls first s t e in
            ap (ticked_on later) (tick_meets first s t e) ∙ ih t (omega (arith, fall, lt)) ∙ sym (tick_meets later s t (later_met first later s t le e))
