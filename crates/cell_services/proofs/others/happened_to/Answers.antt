use Rattle.cell_services.proofs.AlsoLaws.{happened_clients}
use Rattle.cell_services.proofs.others.happened_to.Goals as goal

pub returns-clause-told : goal.returns-clause-told
returns-clause-told c = happened_clients c.args.happened.now _ c.in_ok-clients.ensures.order
