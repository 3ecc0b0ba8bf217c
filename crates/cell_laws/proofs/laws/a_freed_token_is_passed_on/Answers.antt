use Rattle.cell_laws.proofs.GivenBack.{replay_given_back}
use Rattle.cell_laws.proofs.Left.{replay_aborted, replay_left}
use Rattle.cell_laws.proofs.TimedOut.{replay_timed_out}
use Rattle.cell_laws.proofs.laws.a_freed_token_is_passed_on.Goals as goal

pub returns-clause-given_back : goal.returns-clause-given_back
returns-clause-given_back c = replay_given_back

pub returns-clause-timed_out : goal.returns-clause-timed_out
returns-clause-timed_out c = replay_timed_out

pub returns-clause-left : goal.returns-clause-left
returns-clause-left c = replay_left

pub returns-clause-aborted : goal.returns-clause-aborted
returns-clause-aborted c = replay_aborted
