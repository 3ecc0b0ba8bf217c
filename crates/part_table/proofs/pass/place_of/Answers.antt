use Rattle.part_table.proofs.Order.{not_here, none_behind, found_at}
use Rattle.part_table.proofs.pass.place_of.Goals as goal

pub loop-place-init : goal.loop-place-init
loop-place-init c = c.requires

pub returns-then-held-part : goal.returns-then-held-part
returns-then-held-part c = found_at c.args.order.now c.loop-place.place c.args.part c.loop-place-test.true c.if-held-part.true

pub loop-place-preserved : goal.loop-place-preserved
loop-place-preserved c = not_here c.args.order.now c.loop-place.place c.args.part c.loop-place-test.true c.if-held-part.false c.loop-place.invariant

pub unreachable-requires : goal.unreachable-requires
unreachable-requires c = none_behind c.args.order.now c.loop-place.place c.args.part c.loop-place-test.false c.loop-place.invariant
