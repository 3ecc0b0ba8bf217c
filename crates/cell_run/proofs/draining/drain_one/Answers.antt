use Rattle.step_parts.specs.Step.{said}
use Rattle.cell_run.proofs.EachDrained.{one_drained}
use Rattle.cell_run.proofs.draining.drain_one.Goals as goal

pub returns : goal.returns
returns g c =
    let e = c.meet.ensures in
    let f = c.meet-2.ensures in
    one_drained (said c.args.device.now.config) c.args.cell.now c.meet.new.a c.meet-2.new.a c.args.client.now c.meet.new.b c.drain_out-drained.new.pass c.meet-2.new.b c.drain_out-drained.result.ticket _
    e.a_kept e.b_kept e.a_seen.0 e.b_seen.0 e.b_seen.1 c.drain_out-drained.ensures f.a_kept f.b_kept f.a_seen.0 f.a_seen.1 f.b_seen.1
