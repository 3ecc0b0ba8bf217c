use Rattle.std.proofs.Common.{ap, ◌∙◌}
use Rattle.cell_services.specs.Others.{grant_clients}
use Rattle.cell_services.proofs.AlsoLaws.{loss_reaches}
use Rattle.cell_services.proofs.others.lost_told.Goals as goal

pub returns : goal.returns
returns c = loss_reaches c.args.semaphores.now c.args.now c.args.client _ (c.in_ok-clients.ensures ∙ ap grant_clients (c.deref.ensures.value ∙ c.in_ok-grants.ensures.told))
