use Rattle.part_table.proofs.Passes.{first_pass}
use Rattle.part_table.proofs.pass.Pass.of.Goals as goal

pub invariant_of-result : goal.invariant_of-result
invariant_of-result g c =
    let e = c.in_ok-order.ensures in
    first_pass g.O.Object.may_make c.args.seat.table_id c.args.seat.me c.in_ok-order.order.items _ c.args.by c.args.quota c.args.parts c.requires.seat c.requires.told.0 c.requires.told.1
    c.requires.few.0 c.requires.few.1 c.requires.few.2 e.items e.capacity
