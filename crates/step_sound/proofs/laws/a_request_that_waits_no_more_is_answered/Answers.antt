use Rattle.step_sound.proofs.Waiters.{all_answered}
use Rattle.step_sound.proofs.laws.a_request_that_waits_no_more_is_answered.Goals as goal

pub returns : goal.returns
returns c = all_answered
