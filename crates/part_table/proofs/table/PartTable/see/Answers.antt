use Rattle.part_table.proofs.Passes.{seen_pass, true_with}
use Rattle.part_table.proofs.table.PartTable.see.Goals as goal

pub invariant_of-pass : goal.invariant_of-pass
invariant_of-pass g c =
    let saw = c.look.ensures.seen in
    seen_pass g.O.Object.may_make c.pass.inside.seat.table_id _ c.pass.inside.seat.me _ _ _ _ _ c.pass.invariant saw.0 _ saw.1 (saw.3.true_of _)

pub returns-clause-places : goal.returns-clause-places
returns-clause-places g c =
    let saw = c.look.ensures.seen in
    let after = seen_pass g.O.Object.may_make c.pass.inside.seat.table_id c.look.new.seat.table_id c.pass.inside.seat.me c.look.new.seat.me _ _ _ _ c.pass.invariant saw.0 _ saw.1 (saw.3.true_of _) in
    true_with g.O.Object.may_make c.look.new.seat.table_id c.look.new.seat.me.0 c.pass.inside.hand c.pass.inside.order.items (after.true_of _)
