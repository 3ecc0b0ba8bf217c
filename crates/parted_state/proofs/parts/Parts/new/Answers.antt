use Rattle.parted_state.proofs.Bits.{nothing_there, set_of_none}
use Rattle.parted_state.proofs.parts.Parts.new.Goals as goal

pub returns-clause-empty : goal.returns-clause-empty
returns-clause-empty c = nothing_there

pub returns-clause-set : goal.returns-clause-set
returns-clause-set c = set_of_none _ nothing_there
