use Rattle.std.proofs.Common.{sym, subst}
use Rattle.mms_device.specs.Callers.{AreInOrder}
use Rattle.device_tests.proofs.callers.finish.Goals as goal

pub closed-requires-clause-order : goal.closed-requires-clause-order
closed-requires-clause-order c =
    let r = c.requires in
    subst (AreInOrder c.args.device.table 0) (sym c.in-Ok.ensures.items) (r.cell.0, r.cell.1, r.cell.2, (r.first.0, r.first.1, r.first.2, (r.second.0, r.second.1, r.second.2, tt)))
