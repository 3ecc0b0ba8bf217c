use Rattle.cell_laws.proofs.AskedFew.{replay_few}
use Rattle.cell_laws.proofs.loads.no_client_is_asked_too_much.Goals as goal

pub returns : goal.returns
returns c = replay_few
