use Rattle.cell_laws.proofs.InTurn.{in_turn}
use Rattle.cell_laws.proofs.losses.an_abort_by_time_is_a_loss.Goals as goal

pub returns : goal.returns
returns c = in_turn
