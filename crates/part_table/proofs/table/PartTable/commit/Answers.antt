use Rattle.std.proofs.Common.{◌∷◌, [], arith, refl, sym, subst, length-append}
use Rattle.part_table.specs.Passes.{number_of}
use Rattle.part_table.proofs.Passes.{committed_pass, true_with}
use Rattle.part_table.proofs.table.PartTable.commit.Goals as goal

pub overflow_add-result : goal.overflow_add-result
overflow_add-result g c =
    let t = c.add-before.ensures.added in
    let true_then = t.4 c.pass.inside.seat.table_id c.pass.inside.hand in
    let size = true_then.size in
    let long = length-append t.0 ((number_of c.pass.inside.seat.me.0.callers, c.args.event.now) ∷ []) in
    omega (arith, size, long, t.2)

pub invariant_of-pass : goal.invariant_of-pass
invariant_of-pass g c =
    let o = g.O.Object in
    let t = c.add-before.ensures.added in
    let enough = subst (λ k. o.suffices c.args.event.now k.taken) (sym c.pass.view_is) c.requires.enough in
    let same = o.same_parts c.args.event.now c.pass.inside.seat.me.0.held _ t.3.held enough in
    committed_pass o.may_make c.pass.inside.seat.table_id _ c.pass.inside.seat.me _ _ _ _ _ c.pass.invariant o.after c.args.event.now t.0 _ t.1 same (t.4 _) refl

pub returns-clause-places : goal.returns-clause-places
returns-clause-places g c =
    let o = g.O.Object in
    let t = c.add-before.ensures.added in
    let enough = subst (λ k. o.suffices c.args.event.now k.taken) (sym c.pass.view_is) c.requires.enough in
    let same = o.same_parts c.args.event.now c.pass.inside.seat.me.0.held _ t.3.held enough in
    let after = committed_pass o.may_make c.pass.inside.seat.table_id c.add-before.new.seat.table_id c.pass.inside.seat.me c.add-before.new.seat.me _ _ _ _ c.pass.invariant o.after c.args.event.now t.0 _ t.1 same (t.4 _) refl in
    true_with o.may_make c.add-before.new.seat.table_id c.add-before.new.seat.me.0 c.pass.inside.hand c.pass.inside.order.items (after.true_of _)
