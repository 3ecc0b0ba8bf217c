use Rattle.std.proofs.Common.{arith, ◌∙◌, ap, ◌<◌, length}
use Rattle.atomic_table.specs.Table.{turned}
use Rattle.part_table.proofs.Order.{turn_next}
use Rattle.part_table.proofs.pass.bring.Goals as goal

pub loop-turn-preserved : goal.loop-turn-preserved
loop-turn-preserved g c =
    let t = c.turn.ensures in
    let i = c.loop-turn.invariant in
    let lt : c.loop-turn._turn < length c.args.order.now.items = omega (arith, c.loop-turn-test.true, c.requires.place) in record {
      same = (t.0 ∙ i.same.0, t.1 ∙ i.same.1, ap (λ q. q.0) t.2 ∙ i.same.2);
      slots = ap (λ q. q.1) t.2 ∙ ap turned i.slots ∙ turn_next _ _ _ lt;
      order = i.order;
    }
