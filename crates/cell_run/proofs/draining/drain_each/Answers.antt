use Rattle.std.proofs.Common.{◌≡◌, ◌<◌, length, get_or, ap, sym, refl, subst, ◌∙◌, arith}
use Rattle.part_table.proofs.Histories.{starts_refl}
use Rattle.step_parts.specs.Step.{said}
use Rattle.mms_device.specs.Shared.{Caller}
use Rattle.cell_run.specs.Drained.{HaveDrained}
use Rattle.cell_run.proofs.EachDrained.{client_fit, drained_none, drained_one, slice_of}
use Rattle.cell_run.proofs.draining.drain_each.Goals as goal

pub loop-client-init : goal.loop-client-init
loop-client-init g c = λ common starts. subst (HaveDrained (said c.args.device.now.config) common c.args.cell.now c.args.cell.now c.args.clients.now c.args.clients.now 0) (sym c.new-outputs.ensures)
    (drained_none (said c.args.device.now.config) common c.args.cell.now c.args.clients.now starts)

pub drain_one-drained-requires : goal.drain_one-drained-requires
drain_one-drained-requires g c =
    let m = c.loop-client.invariant c.args.cell.now.seen (starts_refl c.args.cell.now.seen) in
    let same = m.same in
    let item = get_or c.loop-client.clients c.loop-client.client-index c.client-item.result in
    let lt : c.loop-client.client-index < length c.loop-client.clients = omega (arith, same, c.loop-client-test.true) in
    let at = slice_of c.loop-client.clients c.loop-client.client-index item lt (ap (λ d. get_or c.loop-client.clients c.loop-client.client-index d) c.client-item.is) in
    let fit = client_fit c.args.device.now (said c.args.device.now.config) _ _ _ _ _ _ _ item m c.requires.clients at in
    record {
      cell = (let kept = m.kept in let k : c.loop-client.cell.table ≡ c.args.cell.now.table = ap (λ (p : Caller). p.table) kept in k ∙ c.requires.cell);
      table = fit.0;
      idle = fit.3;
      left = fit.2;
      client = (let by = fit.1 in omega arith);
    }

pub loop-client-preserved : goal.loop-client-preserved
loop-client-preserved g c = λ common starts.
    let m = c.loop-client.invariant common starts in
    let same = m.same in
    let item = get_or c.loop-client.clients c.loop-client.client-index c.client-item.result in
    let lt : c.loop-client.client-index < length c.loop-client.clients = omega (arith, same, c.loop-client-test.true) in
    let at = slice_of c.loop-client.clients c.loop-client.client-index item lt (ap (λ d. get_or c.loop-client.clients c.loop-client.client-index d) c.client-item.is) in
    let fit = client_fit c.args.device.now (said c.args.device.now.config) _ _ _ _ _ _ _ item m c.requires.clients at in
    drained_one (said c.args.device.now.config) common c.args.cell.now c.loop-client.cell c.drain_one-drained.new.cell c.args.clients.now c.loop-client.clients _ c.loop-client.client-index c.loop-client.outputs _ m
    item c.drain_one-drained.new.client _ lt at fit.1 c.drain_one-drained.ensures refl c.in_ok-push.ensures.appended

pub returns : goal.returns
returns g c = record {
  drained = λ common starts.
      let m = c.loop-client.invariant common starts in
      let same = m.same in
      let end : c.loop-client.client-index ≡ length c.args.clients.now = omega (arith, same, c.loop-client-test.false, c.loop-client.auto.client-index-end) in
      subst (λ n. HaveDrained (said c.args.device.now.config) common c.args.cell.now c.loop-client.cell c.args.clients.now c.loop-client.clients n c.loop-client.outputs) end m;
}
