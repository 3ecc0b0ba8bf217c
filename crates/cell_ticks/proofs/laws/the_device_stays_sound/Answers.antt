use Rattle.cell_ticks.proofs.Ticked.{stays_sound}
use Rattle.cell_ticks.proofs.laws.the_device_stays_sound.Goals as goal

pub returns : goal.returns
returns c = stays_sound
