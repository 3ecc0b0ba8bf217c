use Rattle.mms_device.specs.Shared.{HasTried}
use Rattle.cell_run.proofs.draining.drain_out.Given as goal

abbrev pub invariant-loop : goal.invariant-loop
invariant-loop g l = HasTried l.fn.pass l.pass
