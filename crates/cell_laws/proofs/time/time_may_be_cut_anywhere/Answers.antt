use Rattle.step_parts.specs.State.{IsSound}
use Rattle.step_parts.specs.Step.{replay}
use Rattle.step_sound.proofs.Sound.{replay_sound}
use Rattle.step_sound.proofs.TwoTicks.{two_ticks}
use Rattle.cell_laws.proofs.time.time_may_be_cut_anywhere.Goals as goal

pub returns : goal.returns
returns c config history first second is = two_ticks (replay config history) (replay_sound config history is).semaphores (replay_sound config history is).conditions first second
