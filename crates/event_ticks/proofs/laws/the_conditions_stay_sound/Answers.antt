use Rattle.event_ticks.specs.Ticks.{ticked}
use Rattle.event_ticks.proofs.Ticked.{are_sound, sound_of, stays_sound}
use Rattle.event_ticks.proofs.laws.the_conditions_stay_sound.Goals as goal

pub returns : goal.returns
returns c = λ cells until s sound. are_sound (ticked cells until s) (stays_sound cells until s (sound_of s sound))
