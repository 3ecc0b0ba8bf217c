use Rattle.cell_config.proofs.Walks.{NamesSoFar}
use Rattle.cell_config.proofs.variables.are_variables.Given as goal

abbrev pub invariant-loop-variable : goal.invariant-loop-variable
invariant-loop-variable l = NamesSoFar l.variables l.numbers.keys l.variable-index l.names.keys
