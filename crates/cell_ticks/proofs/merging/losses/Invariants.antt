use Rattle.std.proofs.Common.{◌≡◌, ◌++◌, filter_map, length}
use Rattle.cell_ticks.specs.Meant.{loss_in}
use Rattle.cell_ticks.proofs.merging.losses.Given as goal

-- those so far, and then those of what is left
abbrev pub invariant-loop-first : goal.invariant-loop-first
invariant-loop-first l = l.losses.items ++ filter_map loss_in l.rest ≡ filter_map loss_in l.fn.happened

abbrev pub decreases-loop-first : goal.decreases-loop-first
decreases-loop-first l = length l.rest
