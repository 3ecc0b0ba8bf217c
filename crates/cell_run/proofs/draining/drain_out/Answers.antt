use Rattle.step_parts.specs.Step.{said}
use Rattle.cell_run.proofs.EachDrained.{drained_at_last}
use Rattle.cell_run.proofs.draining.drain_out.Goals as goal

pub returns-in-Ok : goal.returns-in-Ok
returns-in-Ok g c = drained_at_last (said c.args.device.now.config) c.args.pass.now c.loop.pass c.drain.new.pass c.in-Ok.drained.ticket _ c.loop.invariant c.in-Ok.ensures.served
