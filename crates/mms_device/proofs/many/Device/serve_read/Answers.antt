use Rattle.mms_device.proofs.Trying.{still_may}
use Rattle.mms_device.proofs.many.Device.serve_read.Goals as goal

pub try_read-requires-clause-may : goal.try_read-requires-clause-may
try_read-requires-clause-may g c = still_may c.args.pass.now c.loop.pass c.loop.invariant c.args.self.now c.args.event.now c.requires.may
