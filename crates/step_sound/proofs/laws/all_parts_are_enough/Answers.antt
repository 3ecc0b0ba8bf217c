use Rattle.step_sound.proofs.AllParts.{nothing_needed}
use Rattle.step_sound.proofs.laws.all_parts_are_enough.Goals as goal

pub returns : goal.returns
returns c = nothing_needed
