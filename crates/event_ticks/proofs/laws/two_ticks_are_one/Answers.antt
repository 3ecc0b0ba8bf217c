use Rattle.event_ticks.proofs.Ticked.{sound_of, twice}
use Rattle.event_ticks.proofs.laws.two_ticks_are_one.Goals as goal

pub returns : goal.returns
returns c = λ cells first later s sound le. twice cells first later le s (sound_of s sound)
