use Rattle.std.specs.List.{All}
use Rattle.cell_pool.specs.Counting.{IsFit}
use Rattle.call_tests.proofs.pool.counts_to.Given as goal

abbrev pub invariant-loop-goal : goal.invariant-loop-goal
invariant-loop-goal l = record { fit : All (λ count. ∥ IsFit count ∥₁) l.counts.items }
