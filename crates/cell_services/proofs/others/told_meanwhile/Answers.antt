use Rattle.cell_services.proofs.AlsoLaws.{meanwhile_clients}
use Rattle.cell_services.proofs.others.told_meanwhile.Goals as goal

pub returns-clause-told : goal.returns-clause-told
returns-clause-told c = meanwhile_clients c.args.happened.now _ c.in_ok-clients.ensures.told
