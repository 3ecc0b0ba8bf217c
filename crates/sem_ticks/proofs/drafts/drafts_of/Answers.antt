use Rattle.std.proofs.Common.{◌≡◌, ◌∙◌, All, Some, ap, arith, map, slice_get, subst, sym}
use Rattle.std.proofs.lemmas.List.Elements.{All-push}
use Rattle.std.proofs.lemmas.List.Sorted.{All-permutation}
use Rattle.sem_ticks.specs.Drafts.{named, IsPlaced, KeepsLeast}
use Rattle.sem_ticks.proofs.Drafting.{get_some}
use Rattle.sem_ticks.proofs.Made.{made, pair_meant, pair_of, pairs_more, still, whole}
use Rattle.sem_ticks.proofs.NextOf.{from_all, place_stands}
use Rattle.sem_ticks.proofs.drafts.drafts_of.Goals as goal

pub draft_of-requires : goal.draft_of-requires
draft_of-requires c =
    let rows = c.args.semaphores.now in
    let items = c.deref-named-items.result.now in
    let item = c.named-item.result in
    let at = get_some items c.loop-named.named-index item c.loop-named-test.true c.named-item.is in
    let moved = All-permutation (IsPlaced rows) c.args.due.items c.in_order-due.result.items c.in_order-due.ensures.same c.requires.places in
    from_all (IsPlaced rows) items (subst (All (IsPlaced rows)) (sym c.deref-named-items.ensures.value) moved) item (place_stands items c.loop-named.named-index item at)

pub loop-named-init : goal.loop-named-init
loop-named-init c =
    let is = c.in_ok-drafts.ensures.items in
    record {
      pairs = ap (map pair_of) is;
      copies = subst (All (λ d. slice_get c.args.semaphores.now d.place ≡ Some (named d))) (sym is) (λ k d low. absurd (omega (arith, low)));
      least = subst (All KeepsLeast) (sym is) (λ k d low. absurd (omega (arith, low)));
    }

pub loop-named-preserved : goal.loop-named-preserved
loop-named-preserved c =
    let rows = c.args.semaphores.now in
    let items = c.deref-named-items.result.now in
    let item = c.named-item.result in
    let d = c.in_ok-draft_of.field-0 in
    let old = c.loop-named.drafts.items in
    let at = get_some items c.loop-named.named-index item c.loop-named-test.true c.named-item.is in
    let is = c.in_ok-push.ensures.items in
    let copy = ap (slice_get rows) c.in_ok-draft_of.ensures.key.1 ∙ c.in_ok-draft_of.ensures.row in
    record {
      pairs = pairs_more old c.push.new.self.items items c.loop-named.named-index d item is at c.in_ok-draft_of.ensures.key.0 c.in_ok-draft_of.ensures.key.1 c.loop-named.invariant.pairs;
      copies = subst (All (λ d. slice_get rows d.place ≡ Some (named d))) (sym is) (All-push (λ d. slice_get rows d.place ≡ Some (named d)) old d c.loop-named.invariant.copies copy);
      least = subst (All KeepsLeast) (sym is) (All-push KeepsLeast old d c.loop-named.invariant.least c.in_ok-draft_of.ensures.least);
    }

pub returns-clause-drafts : goal.returns-clause-drafts
returns-clause-drafts c =
    let ds = c.loop-named.drafts.items in
    let items = c.in_order-due.result.items in
    let same = c.loop-named.invariant.pairs ∙ ap (map pair_meant) (whole c.deref-named-items.result.now c.loop-named.named-index c.loop-named-test.false ∙ c.deref-named-items.ensures.value) in
    made c.args.until c.args.semaphores.now c.args.due.items items ds c.len-rows.ensures.distinct c.requires.keys c.in_order-due.ensures.same c.in_order-due.ensures.sorted same c.loop-named.invariant.copies
    c.loop-named.invariant.least

pub returns-clause-copies : goal.returns-clause-copies
returns-clause-copies c =
    let ds = c.loop-named.drafts.items in
    let items = c.in_order-due.result.items in
    let same = c.loop-named.invariant.pairs ∙ ap (map pair_meant) (whole c.deref-named-items.result.now c.loop-named.named-index c.loop-named-test.false ∙ c.deref-named-items.ensures.value) in
    still c.args.until c.args.semaphores.now c.args.due.items items ds c.len-rows.ensures.distinct c.requires.keys c.in_order-due.ensures.same c.in_order-due.ensures.sorted same c.loop-named.invariant.copies
    c.loop-named.invariant.least
