use Rattle.cell_laws.proofs.Accounts.{replay_answered}
use Rattle.cell_laws.proofs.laws.each_request_is_answered_once.Goals as goal

pub returns : goal.returns
returns c = replay_answered
