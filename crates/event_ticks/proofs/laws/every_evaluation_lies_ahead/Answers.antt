use Rattle.event_ticks.proofs.Ticked.{all_ahead, sound_of}
use Rattle.event_ticks.proofs.laws.every_evaluation_lies_ahead.Goals as goal

pub returns : goal.returns
returns c = λ cells until s sound. all_ahead cells until s (sound_of s sound)
