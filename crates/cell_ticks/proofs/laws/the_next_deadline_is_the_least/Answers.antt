use Rattle.cell_ticks.proofs.Next.{next_by_then, next_least, next_none}
use Rattle.cell_ticks.proofs.laws.the_next_deadline_is_the_least.Goals as goal

pub returns : goal.returns
returns c = record { least = next_least; by_then = next_by_then; none = next_none }
