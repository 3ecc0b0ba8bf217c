use Rattle.cell_ticks.proofs.Ticked.{both_parts}
use Rattle.cell_ticks.proofs.laws.a_tick_has_two_parts.Goals as goal

pub returns : goal.returns
returns c = both_parts
