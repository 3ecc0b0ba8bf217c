use Rattle.std.proofs.Common.{sym}
use Rattle.mms_types.specs.Order.{key_of}
use Rattle.mms_time.proofs.Changed.{unchanged}
use Rattle.mms_time.proofs.taking.take_control.Goals as goal

pub returns-in-Some-clause-kept : goal.returns-in-Some-clause-kept
returns-in-Some-clause-kept c =
    unchanged c.take.result (key_of c.args.client c.args.asked.now.name) c.args.semaphores.now _ c.in-Some.row.now c.take.new.self (c.named_mut.follows.holds c.take.new.self) (sym c.in-Some.ensures.value) c.take.ensures.kept
