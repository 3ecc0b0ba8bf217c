use Rattle.std.proofs.Common.{◌≡◌, ◌++◌, List, Option, None, Some, drop, length, map, option_and_then, option_map, refl, sym, ◌∙◌, ap}
use Rattle.mms_time.specs.Deadlines.{next_due}
use Rattle.sem_ticks.specs.Dated.{met_dated}
use Rattle.sem_ticks.specs.Meant.{meeting_of, next_meant, with_moments}
use Rattle.sem_ticks.specs.Ticks.{met}
use Rattle.sem_ticks.specs.declared.ticks.Happening.{Happening}
use Rattle.sem_ticks.specs.declared.ticks.NextOf.{NextOf}
use Rattle.sem_ticks.proofs.Dated.{dated_meets, dated_rests, dated_so}
use Rattle.sem_ticks.proofs.Fewer.{falls}
use Rattle.sem_ticks.proofs.Twice.{tick_meets, tick_rests}
use Rattle.sem_ticks.proofs.ticks.met_in_copy.Goals as goal

pub loop-moments-smaller : goal.loop-moments-smaller
loop-moments-smaller c =
    let due : next_due c.args.until c.loop-moments.ticked.semaphores ≡ Some (next_meant c.in-Some.next) =
    sym c.in_ok-next.ensures.least ∙ ap (option_map next_meant) c.in-Some.is in
    falls c.args.until (meeting_of c.loop-moments.ticked) (meeting_of c.meet.new.ticked)
    (ap (option_and_then (met (meeting_of c.loop-moments.ticked))) due ∙ c.in_ok-meet.ensures)

pub loop-moments-preserved : goal.loop-moments-preserved
loop-moments-preserved c =
    let s = meeting_of c.loop-moments.ticked in
    let t = meeting_of c.meet.new.ticked in
    let due : next_due c.args.until s.rows ≡ Some (next_meant c.in-Some.next) =
    sym c.in_ok-next.ensures.least ∙ ap (option_map next_meant) c.in-Some.is in
    let so = dated_so c.args.until s t (next_meant c.in-Some.next) c.loop-moments.moments.items c.date.new.moments.items due c.in_ok-meet.ensures c.loop-moments.invariant.long
    (c.in_ok-date.ensures ∙ ap (λ (l : List Happening). c.loop-moments.moments.items ++ map (λ (h : Happening). c.in-Some.next.at) (drop (length c.loop-moments.moments.items) l)) c.deref.ensures.value) in
    record {
      ticked = sym (tick_meets c.args.until s t (ap (option_and_then (met s)) due ∙ c.in_ok-meet.ensures)) ∙ c.loop-moments.invariant.ticked;
      dated = sym (dated_meets c.args.until (with_moments s c.loop-moments.moments.items) (with_moments t c.date.new.moments.items) so.next) ∙ c.loop-moments.invariant.dated;
      long = so.long;
    }

nothing : (o : Option NextOf) → ((x : NextOf) → o ≡ Some x → ⊥) → o ≡ None
nothing None never = refl
nothing (Some x) never = absurd (never x refl)

pub returns : goal.returns
returns c =
    let s = meeting_of c.loop-moments.ticked in
    let none : next_due c.args.until s.rows ≡ None =
    sym c.in_ok-next.ensures.least ∙ ap (option_map next_meant) (nothing c.in_ok-next.field-0 c.in_default.not-Some) in
    record {
      met = sym (tick_rests c.args.until s (ap (option_and_then (met s)) none)) ∙ c.loop-moments.invariant.ticked;
      dated =
          sym (dated_rests c.args.until (with_moments s c.loop-moments.moments.items) (ap (option_and_then (met_dated (with_moments s c.loop-moments.moments.items))) none))
          ∙ c.loop-moments.invariant.dated;
      long = c.loop-moments.invariant.long;
    }
