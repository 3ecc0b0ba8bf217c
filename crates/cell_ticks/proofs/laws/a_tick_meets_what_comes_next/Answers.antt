use Rattle.cell_ticks.proofs.Ticked.{ends, tick_meets, tick_rests}
use Rattle.cell_ticks.proofs.laws.a_tick_meets_what_comes_next.Goals as goal

pub returns : goal.returns
returns c = record { rests = tick_rests; meets = tick_meets; ends = ends }
