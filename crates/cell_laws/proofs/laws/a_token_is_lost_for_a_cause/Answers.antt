use Rattle.cell_laws.proofs.GoneFor.{replay_gone_for}
use Rattle.cell_laws.proofs.LostFor.{replay_lost_for}
use Rattle.cell_laws.proofs.laws.a_token_is_lost_for_a_cause.Goals as goal

pub returns-clause-lost : goal.returns-clause-lost
returns-clause-lost c = replay_lost_for

pub returns-clause-gone : goal.returns-clause-gone
returns-clause-gone c = replay_gone_for
