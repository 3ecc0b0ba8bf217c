use Rattle.std.proofs.Common.{ap, get_or, refl, subst, suc}
use Rattle.part_table.specs.History.{StartsWith}
use Rattle.step_parts.specs.Step.{said}
use Rattle.cell_run.proofs.EachDrained.{all_drained, cell_is, cell_there, client_there, each_fit, if_ok}
use Rattle.cell_run.proofs.running.drain_all.Goals as goal

pub drain_each-requires-clause-cell : goal.drain_each-requires-clause-cell
drain_each-requires-clause-cell g c =
    let s = c.split_at_mut-front.ensures in
    let f = get_or c.split_at_mut-front.result.0.now 0 c.index-front-0.result in
    let is = ap (λ d. get_or c.split_at_mut-front.result.0.now 0 d) c.index-front-0.is in
    (c.requires.passes 0 f (cell_there c.args.passes.now c.split_at_mut-front.result.0.now c.split_at_mut-front.result.1.now f s.value s.front_len is)).0

pub drain_each-requires-clause-clients : goal.drain_each-requires-clause-clients
drain_each-requires-clause-clients g c =
    let s = c.split_at_mut-front.ensures in
    let f = get_or c.split_at_mut-front.result.0.now 0 c.index-front-0.result in
    let is = ap (λ d. get_or c.split_at_mut-front.result.0.now 0 d) c.index-front-0.is in
    λ i p at. each_fit c.args.device.now i p (c.requires.passes (suc i) p (client_there c.args.passes.now c.split_at_mut-front.result.0.now c.split_at_mut-front.result.1.now f s.value s.front_len is i p at))

pub returns : goal.returns
returns g c =
    let s = c.split_at_mut-front.ensures in
    let front = c.split_at_mut-front.result.0.now in
    let clients = c.split_at_mut-front.result.1.now in
    let f = get_or front 0 c.index-front-0.result in
    let is = ap (λ d. get_or front 0 d) c.index-front-0.is in
    record {
      drained = λ common first others same starts.
          let starts_f : StartsWith f.seen common = subst (λ k. StartsWith k.seen common) (cell_is c.args.passes.now front clients f s.value s.front_len is first others same) starts in
          if_ok c.drain_each.result _ _ (c.drain_each.ensures.drained common starts_f)
          (λ outputs d. all_drained c.args.passes.now front clients f s.value s.front_len is (said c.args.device.now.config) c.drain_each.new.cell c.drain_each.new.clients _ common first others outputs refl same d);
    }
