use Rattle.step_sound.proofs.Guarded.{guarded_step}
use Rattle.step_sound.proofs.laws.a_guarded_cell_is_written_by_an_owner.Goals as goal

pub returns : goal.returns
returns c s event number was guard there is = guarded_step s event number was guard there is
