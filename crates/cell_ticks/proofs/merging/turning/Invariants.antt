use Rattle.std.proofs.Common.{◌≡◌, ◌++◌, map}
use Rattle.cell_ticks.specs.Parts.{turning}
use Rattle.cell_ticks.proofs.merging.turning.Given as goal

-- what has its moment so far, and then what is left
abbrev pub invariant-loop-one : goal.invariant-loop-one
invariant-loop-one l = l.all.items ++ map turning l.one-iterator.rest.items ≡ map turning l.fn.told.items
