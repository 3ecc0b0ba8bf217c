use Rattle.std.proofs.Common.{rules, arith}
use Rattle.cell_pool.proofs.Laying.{lay_next, lay_end, once_next, once_end}
use Rattle.cell_pool.proofs.Lists.{popped}
use Rattle.cell_pool.proofs.order.lay.Goals as goal

pub loop-item-preserved-in-Some : goal.loop-item-preserved-in-Some
loop-item-preserved-in-Some g c = record {
  len = search rules;
  laid = λ p before. lay_next (λ i. i.place) c.loop-item.slots _ c.pop.new.self.items c.in-Some.item p (popped _ _ c.pop.result _ c.pop.ensures.items c.in-Some.is)
      (let i = c.in-Some.item.is_place in omega (arith, c.loop-item.invariant.len)) (c.loop-item.invariant.laid p before);
  same = λ f p before. once_next (λ i. i.place) f c.loop-item.slots _ c.pop.new.self.items c.in-Some.item p (popped _ _ c.pop.result _ c.pop.ensures.items c.in-Some.is)
      (let i = c.in-Some.item.is_place in omega (arith, c.loop-item.invariant.len)) (c.loop-item.invariant.same f p before);
}

pub loop-item-preserved : goal.loop-item-preserved
loop-item-preserved g c = record {
  len = search rules;
  laid = λ p before. lay_next (λ i. i.place) c.loop-item.slots _ c.pop.new.self.items c.in-Some.item p (popped _ _ c.pop.result _ c.pop.ensures.items c.in-Some.is)
      (let i = c.in-Some.item.is_place in omega (arith, c.loop-item.invariant.len)) (c.loop-item.invariant.laid p before);
  same = λ f p before. once_next (λ i. i.place) f c.loop-item.slots _ c.pop.new.self.items c.in-Some.item p (popped _ _ c.pop.result _ c.pop.ensures.items c.in-Some.is)
      (let i = c.in-Some.item.is_place in omega (arith, c.loop-item.invariant.len)) (c.loop-item.invariant.same f p before);
}

pub returns-clause-laid : goal.returns-clause-laid
returns-clause-laid g c p before = lay_end (λ i. i.place) c.loop-item.slots c.loop-item.list.items p (omega (arith, c.loop-item.list.ok, c.in_default.ensures.cases.0)) (c.loop-item.invariant.laid p before)

pub returns-clause-same : goal.returns-clause-same
returns-clause-same g c f p before = once_end (λ i. i.place) f c.loop-item.slots c.loop-item.list.items p (omega (arith, c.loop-item.list.ok, c.in_default.ensures.cases.0)) (c.loop-item.invariant.same f p before)
