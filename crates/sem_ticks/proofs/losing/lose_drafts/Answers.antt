use Rattle.std.proofs.Common.{◌≡◌, Some, arith, slice_get}
use Rattle.sem_ticks.specs.Drafts.{KeepsLeast}
use Rattle.sem_ticks.proofs.AllLost.{all_lost, lost_length, lost_next, next_is, told_next}
use Rattle.sem_ticks.proofs.Drafting.{get_some}
use Rattle.sem_ticks.proofs.NextOf.{from_all, place_stands}
use Rattle.sem_ticks.proofs.losing.lose_drafts.Goals as goal

pub lose_draft-requires-clause-least : goal.lose_draft-requires-clause-least
lose_draft-requires-clause-least c =
    let ds = c.args.drafts.now.items in
    let es = c.loop-place.drafts.items in
    let place = c.loop-place.place in
    let d = c.index_mut.result.now in
    let end = c.loop-place.invariant.end in
    let before = c.loop-place-test.true in
    let many = lost_length c.args.client c.args.now place ds es c.loop-place.invariant.lost in
    let at : slice_get es place ≡ Some d = get_some es place d (omega (arith, end, before, many)) c.index_mut.ensures.value in
    let was = next_is c.args.client c.args.now place ds es d c.loop-place.invariant.lost at in
    from_all KeepsLeast ds c.requires.least d (place_stands ds place d was)

pub loop-place-preserved : goal.loop-place-preserved
loop-place-preserved c =
    let ds = c.args.drafts.now.items in
    let es = c.loop-place.drafts.items in
    let place = c.loop-place.place in
    let d = c.index_mut.result.now in
    let end = c.loop-place.invariant.end in
    let before = c.loop-place-test.true in
    let many = lost_length c.args.client c.args.now place ds es c.loop-place.invariant.lost in
    let at : slice_get es place ≡ Some d = get_some es place d (omega (arith, end, before, many)) c.index_mut.ensures.value in
    let was = next_is c.args.client c.args.now place ds es d c.loop-place.invariant.lost at in
    record {
      lost = lost_next c.args.client c.args.now place ds es d c.lose_draft.new.draft c.loop-place.invariant.lost at c.in_ok-lose_draft.ensures.lost;
      told = told_next c.args.client c.args.now place ds d c.args.happened.now.items c.loop-place.happened.items c.lose_draft.new.happened.items was c.loop-place.invariant.told
          c.in_ok-lose_draft.ensures.told;
      end = c.loop-place.invariant.end;
    }

pub returns-clause-lost : goal.returns-clause-lost
returns-clause-lost c =
    let ds = c.args.drafts.now.items in
    let end = c.loop-place.invariant.end in
    let past = c.loop-place-test.false in
    all_lost c.args.client c.args.now c.loop-place.place ds c.loop-place.drafts.items (omega (arith, end, past)) c.loop-place.invariant.lost
