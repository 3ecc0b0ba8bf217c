use Rattle.std.proofs.Common.{◌∙◌, arith}
use Rattle.cell_ticks.proofs.Lists.{merged_more}
use Rattle.cell_ticks.proofs.merging.merged.Goals as goal

pub loop-one-preserved : goal.loop-one-preserved
loop-one-preserved c =
    let m = merged_more c.loop-one.all.items c.put_earlier.new.all.items c.push_reserved.new.self.items c.loop-one.one-iterator.rest.items c.next.new.self.rest.items c.loop-one.left.items c.put_earlier.new.left.items
    c.in-Some.one c.in-Some.ensures.steps.0 c.loop-one.invariant.order c.put_earlier.ensures.same c.put_earlier.ensures.starts c.push_reserved.ensures.items in
    record { all = m.0 ∙ c.loop-one.invariant.all; order = m.1; room = omega (arith, c.loop-one.invariant.room, c.in-Some.ensures.steps.1, c.put_earlier.ensures.many, c.put_earlier.ensures.capacity, c.push_reserved.ensures.len, c.push_reserved.ensures.capacity) }
