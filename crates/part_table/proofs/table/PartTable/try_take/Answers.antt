use Rattle.std.proofs.Common.{◌≡◌, ◌<◌, length, None, arith, ◌∙◌, ap, subst}
use Rattle.part_table.specs.Held.{held_at}
use Rattle.part_table.specs.Passes.{number_of}
use Rattle.part_table.proofs.Passes.{lost_pass, took_pass, room_for}
use Rattle.part_table.proofs.table.PartTable.try_take.Goals as goal

pub claim-requires-clause-by : goal.claim-requires-clause-by
claim-requires-clause-by g c =
    let t = c.pass.invariant.true_of c.pass.inside.hand in
    subst (λ n. n < c.pass.inside.seat.me.0.setting.callers) (ap number_of c.pass.invariant.account) t.number

pub invariant_of-pass : goal.invariant_of-pass
invariant_of-pass g c =
    lost_pass g.O.Object.may_make c.pass.inside.seat.table_id _ c.pass.inside.seat.me _ _ _ _ _ c.pass.invariant _ c.in_err-value.ensures.lost.2

pub put_first-requires : goal.put_first-requires
put_first-requires g c =
    let same = ap (λ k. length k.table.opening) c.pass.view_is ∙ ap (λ t. length t.opening) c.requires.table in
    let free : held_at c.pass.inside.seat.me.0.held c.args.part ≡ None = ap (λ k. held_at k.taken c.args.part) c.pass.view_is ∙ c.requires.free in
    let room = room_for g.O.Object.may_make c.pass.inside.seat.table_id c.pass.inside.seat.table_id c.pass.inside.seat.me c.pass.inside.seat.me _ _ _ _ c.pass.invariant c.args.part (omega (arith, same, c.requires.part)) free in
    record { room = omega (arith, room, c.pass.inside.order.ok) }

pub invariant_of-pass-2 : goal.invariant_of-pass-2
invariant_of-pass-2 g c =
    let same = ap (λ k. length k.table.opening) c.pass.view_is ∙ ap (λ t. length t.opening) c.requires.table in
    let free : held_at c.pass.inside.seat.me.0.held c.args.part ≡ None = ap (λ k. held_at k.taken c.args.part) c.pass.view_is ∙ c.requires.free in
    let e = c.in_ok-value.ensures in
    took_pass g.O.Object.may_make c.pass.inside.seat.table_id _ c.pass.inside.seat.me _ _ _ _ _ c.pass.invariant c.args.part c.in_ok-value.value.value _ _ e.taken (omega (arith, same, c.requires.part)) free
    c.put_first.ensures.items c.put_first.ensures.room
