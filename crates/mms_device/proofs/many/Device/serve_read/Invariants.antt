use Rattle.mms_device.specs.Shared.{HasTried}
use Rattle.mms_device.proofs.many.Device.serve_read.Given as goal

abbrev pub invariant-loop : goal.invariant-loop
invariant-loop g l = HasTried l.fn.pass l.pass
