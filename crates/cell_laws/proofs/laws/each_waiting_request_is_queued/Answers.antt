use Rattle.cell_laws.proofs.Replayed.{replay_are_linked}
use Rattle.cell_laws.proofs.laws.each_waiting_request_is_queued.Goals as goal

pub returns : goal.returns
returns c = replay_are_linked
