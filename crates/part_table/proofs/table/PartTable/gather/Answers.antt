use Rattle.std.proofs.Common.{ap, get_or, refl}
use Rattle.part_table.proofs.Gathering.{tables_kept, gathered_all}
use Rattle.part_table.proofs.table.PartTable.gather.Goals as goal

pub meet_each-requires-2-clause-others : goal.meet_each-requires-2-clause-others
meet_each-requires-2-clause-others g c =
    let s = c.split_at_mut-front.ensures in
    tables_kept g.O.Object.may_make c.args.self.now c.args.passes.now c.split_at_mut-front.result.0.now c.split_at_mut-front.result.1.now (get_or c.split_at_mut-front.result.0.now 0 c.index-front-0.result) s.value s.front_len
    (ap (λ d. get_or c.split_at_mut-front.result.0.now 0 d) c.index-front-0.is)
    c.requires.all _ _ c.meet_each.ensures

pub returns : goal.returns
returns g c =
    let s = c.split_at_mut-front.ensures in
    let look = c.see_places-places.ensures in
    record {
      gathered = gathered_all g.O.Object.may_make c.args.self.now c.args.passes.now c.split_at_mut-front.result.0.now c.split_at_mut-front.result.1.now (get_or c.split_at_mut-front.result.0.now 0 c.index-front-0.result) s.value s.front_len
          (ap (λ d. get_or c.split_at_mut-front.result.0.now 0 d) c.index-front-0.is) c.requires.all _ _ _ _ _ _ c.see_places-places.result c.a_pass_knows_its_own_places.ensures c.meet_each.ensures look.kept look.seen look.places c.meet_each-2.ensures
          c.a_pass_knows_its_own_places-2.ensures refl;
    }
