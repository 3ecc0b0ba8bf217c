use Rattle.std.proofs.Common.{◌∙◌, arith, sym}
use Rattle.cell_ticks.proofs.Lists.{earlier_more}
use Rattle.cell_ticks.proofs.merging.put_earlier.Goals as goal

pub loop-at-preserved-in-Some : goal.loop-at-preserved-in-Some
loop-at-preserved-in-Some c = record {
  same = λ xs from.
      earlier_more c.args.at c.loop-at.all.items c.push_reserved.new.self.items c.loop-at.left.items c.pop_front.new.self.items c.in-Some.first c.in-Some.ensures.items
      (sym c.starts_before.ensures ∙ c.loop-at-test.true) c.push_reserved.ensures.items xs from
      ∙ c.loop-at.invariant.same xs from;
  many = omega (arith, c.loop-at.invariant.many, c.push_reserved.ensures.len, c.in-Some.ensures.cases);
  capacity = c.push_reserved.ensures.capacity ∙ c.loop-at.invariant.capacity;
}
