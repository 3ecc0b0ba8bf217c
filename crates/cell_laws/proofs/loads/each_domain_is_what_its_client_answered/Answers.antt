use Rattle.cell_laws.proofs.LoadsTold.{replay_live, replay_loading}
use Rattle.cell_laws.proofs.loads.each_domain_is_what_its_client_answered.Goals as goal

pub returns-clause-live : goal.returns-clause-live
returns-clause-live c = replay_live

pub returns-clause-loading : goal.returns-clause-loading
returns-clause-loading c = replay_loading
