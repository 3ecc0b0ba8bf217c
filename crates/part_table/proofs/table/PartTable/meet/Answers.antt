use Rattle.part_table.proofs.Passes.{seen_pass, true_with}
use Rattle.part_table.proofs.table.PartTable.meet.Goals as goal

pub invariant_of-a : goal.invariant_of-a
invariant_of-a g c =
    let saw = c.inform.ensures.a in
    seen_pass g.O.Object.may_make c.a.inside.seat.table_id _ c.a.inside.seat.me _ _ _ _ _ c.a.invariant saw.0 saw.1 saw.2 (saw.3.true_of _)

pub invariant_of-b : goal.invariant_of-b
invariant_of-b g c =
    let saw = c.inform.ensures.b in
    seen_pass g.O.Object.may_make c.b.inside.seat.table_id _ c.b.inside.seat.me _ _ _ _ _ c.b.invariant saw.0 saw.1 saw.2 (saw.3.true_of _)

pub returns-clause-places : goal.returns-clause-places
returns-clause-places g c =
    let a = c.inform.ensures.a in
    let b = c.inform.ensures.b in
    let of_a = seen_pass g.O.Object.may_make c.a.inside.seat.table_id c.inform.new.a.table_id c.a.inside.seat.me c.inform.new.a.me _ _ _ _ c.a.invariant a.0 a.1 a.2 (a.3.true_of _) in
    let of_b = seen_pass g.O.Object.may_make c.b.inside.seat.table_id c.inform.new.b.table_id c.b.inside.seat.me c.inform.new.b.me _ _ _ _ c.b.invariant b.0 b.1 b.2 (b.3.true_of _) in
    (true_with g.O.Object.may_make c.inform.new.a.table_id c.inform.new.a.me.0 c.a.inside.hand c.a.inside.order.items (of_a.true_of _), true_with g.O.Object.may_make c.inform.new.b.table_id c.inform.new.b.me.0 c.b.inside.hand c.b.inside.order.items (of_b.true_of _))
