use Rattle.cell_config.proofs.Walks.{NumbersSoFar}
use Rattle.cell_config.proofs.cells.numbers.Given as goal

abbrev pub invariant-loop-cell : goal.invariant-loop-cell
invariant-loop-cell l = NumbersSoFar l.cells l.cell-index l.numbers.keys
