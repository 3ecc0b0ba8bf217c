use Rattle.cell_laws.proofs.TheirsAlong.{replay_associated}
use Rattle.cell_laws.proofs.losses.nothing_is_left_of_an_association.Goals as goal

pub returns : goal.returns
returns c = replay_associated
