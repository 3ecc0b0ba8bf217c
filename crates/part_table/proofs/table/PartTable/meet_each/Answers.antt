use Rattle.std.proofs.Common.{◌<◌, ap, get_or, length, refl, arith}
use Rattle.part_table.proofs.Gathering.{met_one, met_all, slice_at}
use Rattle.part_table.proofs.table.PartTable.meet_each.Goals as goal

pub loop-other-preserved : goal.loop-other-preserved
loop-other-preserved g c =
    let e = c.meet.ensures in
    let may = g.O.Object.may_make in
    let item = get_or c.loop-other.others c.loop-other.other-index c.other-item.result in
    let same = c.loop-other.invariant.same in
    let lt : c.loop-other.other-index < length c.loop-other.others = omega (arith, same, c.loop-other-test.true) in
    met_one may c.args.first.now c.loop-other.first c.meet.new.a c.args.others.now c.loop-other.others _ c.loop-other.other-index c.loop-other.invariant item c.meet.new.b
    lt (slice_at may _ _ item lt (ap (λ d. get_or c.loop-other.others c.loop-other.other-index d) c.other-item.is)) e.a_kept e.b_kept e.a_seen e.b_seen c.a_pass_knows_its_own_places.ensures e.places.1 refl

pub returns : goal.returns
returns g c = met_all g.O.Object.may_make _ _ _ _ c.loop-other.other-index c.loop-other.invariant (let same = c.loop-other.invariant.same in omega (arith, same, c.loop-other-test.false))
