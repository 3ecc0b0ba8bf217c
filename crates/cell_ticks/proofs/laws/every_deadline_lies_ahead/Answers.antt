use Rattle.cell_ticks.specs.Ticks.{ticked_on}
use Rattle.cell_ticks.proofs.Next.{next_none}
use Rattle.cell_ticks.proofs.Ticked.{nothing_left}
use Rattle.cell_ticks.proofs.laws.every_deadline_lies_ahead.Goals as goal

pub returns : goal.returns
returns c cells until s sound = let end = ticked_on cells until s in next_none until end.semaphores end.conditions (nothing_left cells until s sound)
