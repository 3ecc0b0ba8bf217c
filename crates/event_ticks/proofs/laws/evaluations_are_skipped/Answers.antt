use Rattle.event_ticks.proofs.Ticked.{skips, sound_of}
use Rattle.event_ticks.proofs.laws.evaluations_are_skipped.Goals as goal

pub returns : goal.returns
returns c = λ cells until s sound. skips cells until s (sound_of s sound)
