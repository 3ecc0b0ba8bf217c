use Rattle.std.proofs.Common.{◌≡◌, ◌∙◌, ◌+◌, ◌<◌, IfSome, Some, ap, refl, slice_get, subst, sym}
use Rattle.mms_time.specs.Deadlines.{first_due}
use Rattle.sem_ticks.specs.Drafts.{IsNextOf}
use Rattle.sem_ticks.proofs.Drafting.{all_taken, get_some, least_more, next_of_more, within_more}
use Rattle.sem_ticks.proofs.drafts.first_of.Goals as goal

pub loop-place-preserved : goal.loop-place-preserved
loop-place-preserved c =
    let ds = c.args.drafts.now in
    let place = c.loop-place.place in
    let d = c.index-drafts-place.result in
    let first = c.loop-place.first in
    let at : slice_get ds place ≡ Some d = get_some ds place d c.loop-place-test.true c.index-drafts-place.is in
    let is = c.sooner_of-first.ensures in
    record {
      least = least_more ds place d first _ c.requires.ascend c.requires.least at c.loop-place.invariant.within c.loop-place.invariant.of c.loop-place.invariant.least is;
      within = subst (λ o. IfSome o (λ n. n.place < place + 1)) (sym is) (within_more place d first c.loop-place.invariant.within);
      of = subst (λ o. IfSome o (IsNextOf ds)) (sym is) (next_of_more ds place d first at c.loop-place.invariant.of);
      end = refl;
    }

pub returns-clause-least : goal.returns-clause-least
returns-clause-least c = c.loop-place.invariant.least ∙ ap first_due (all_taken c.args.drafts.now c.loop-place.place c.loop-place-test.false)
