use Rattle.cell_laws.proofs.NearAlong.{replay_left, replay_near}
use Rattle.cell_laws.proofs.laws.no_deadline_is_far.Goals as goal

pub returns-clause-near : goal.returns-clause-near
returns-clause-near c = replay_near

pub returns-clause-told : goal.returns-clause-told
returns-clause-told c = replay_left
