use Rattle.cell_laws.proofs.LeftNamed.{lost-last, replay_aborted_named, replay_left_last, replay_left_named}
use Rattle.cell_laws.proofs.laws.tokens_of_a_pool_are_passed_on_in_order.Goals as goal

pub returns-clause-left : goal.returns-clause-left
returns-clause-left c = replay_left_named

pub returns-clause-left_last : goal.returns-clause-left_last
returns-clause-left_last c = replay_left_last

pub returns-clause-aborted : goal.returns-clause-aborted
returns-clause-aborted c = replay_aborted_named

pub returns-clause-aborted_last : goal.returns-clause-aborted_last
returns-clause-aborted_last c = lost-last
