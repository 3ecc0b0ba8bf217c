use Rattle.std.proofs.Common.{◌+◌, ap}
use Rattle.association.specs.Client.{drained_row}
use Rattle.step_parts.specs.declared.part.Part.TheVariants.{Client}
use Rattle.step_parts.specs.Partition.{on_client}
use Rattle.step_apply.proofs.Changed.{client_arm}
use Rattle.step_apply.proofs.Enough.{drained_is_after}
use Rattle.step_apply.proofs.applying.drain.Goals as goal

pub returns-clause-emptied : goal.returns-clause-emptied
returns-clause-emptied c =
    client_arm (on_client drained_row) c.args.held.now c.take.new.self c.put.new.self (5 + c.args.client) c.in-Some.part.value c.deref_mut.result.now c.in-Client.client
    c.drain-outputs.new.self c.in-Some.ensures.part c.in-Some.ensures.left c.deref_mut.ensures.value c.in-Client.is (ap Client c.drain-outputs.ensures.emptied) c.put.ensures

pub returns-clause-parts : goal.returns-clause-parts
returns-clause-parts c s of among =
    drained_is_after c.args.held.now c.put.new.self c.args.client s of among c.requires.held
    (client_arm (on_client drained_row) c.args.held.now c.take.new.self c.put.new.self (5 + c.args.client) c.in-Some.part.value c.deref_mut.result.now c.in-Client.client
    c.drain-outputs.new.self c.in-Some.ensures.part c.in-Some.ensures.left c.deref_mut.ensures.value c.in-Client.is (ap Client c.drain-outputs.ensures.emptied) c.put.ensures)
