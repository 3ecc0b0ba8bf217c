use Rattle.step_sound.proofs.Outboxes.{given_back, left_to, lost_to, ticked_to}
use Rattle.step_sound.proofs.laws.a_grant_is_answered_at_once.Goals as goal

pub returns-clause-given_back : goal.returns-clause-given_back
returns-clause-given_back c s client octets g gives = given_back s client octets g gives.invoke gives.asked gives.taken gives.served gives.granted

pub returns-clause-left : goal.returns-clause-left
returns-clause-left c = left_to

pub returns-clause-lost : goal.returns-clause-lost
returns-clause-lost c = lost_to

pub returns-clause-ticked : goal.returns-clause-ticked
returns-clause-ticked c = ticked_to
