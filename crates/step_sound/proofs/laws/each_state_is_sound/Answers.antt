use Rattle.step_parts.proofs.PartsAfter.{replay_dated}
use Rattle.step_sound.proofs.Sound.{replay_sound}
use Rattle.step_sound.proofs.laws.each_state_is_sound.Goals as goal

pub returns-clause-sound : goal.returns-clause-sound
returns-clause-sound c = replay_sound

pub returns-clause-dated : goal.returns-clause-dated
returns-clause-dated c = replay_dated
