use Rattle.step_sound.proofs.TwoTicks.{two_ticks}
use Rattle.step_sound.proofs.laws.two_ticks_are_one.Goals as goal

pub returns : goal.returns
returns c s first second sound timed = two_ticks s sound timed first second
