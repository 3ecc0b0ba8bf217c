use Rattle.cell_config.proofs.Walks.{TextsSoFar}
use Rattle.cell_config.proofs.pools.are_distinct.Given as goal

abbrev pub invariant-loop-text : goal.invariant-loop-text
invariant-loop-text l = TextsSoFar l.texts l.text-index l.names.keys
