use Rattle.serve_semaphores.proofs.OthersLaws.{heir_tells}
use Rattle.serve_semaphores.proofs.others.tells.Goals as goal

pub returns-in-RelinquishControl-clause-told : goal.returns-in-RelinquishControl-clause-told
returns-in-RelinquishControl-clause-told c =
    heir_tells c.heir.result c.args.rows.now c.args.part.now.row c.args.invoke c.args.asked c.in-RelinquishControl.asked c.in-RelinquishControl.is c.heir.ensures.told
