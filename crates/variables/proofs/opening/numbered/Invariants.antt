use Rattle.std.proofs.Common.{◌≡◌, ◌++◌, map}
use Rattle.variables.specs.Bounds.{AreSmall}
use Rattle.variables.specs.Start.{cell_row}
use Rattle.variables.proofs.opening.numbered.Given as goal

-- the cells so far, and then those that are left
abbrev pub invariant-loop-row : goal.invariant-loop-row
invariant-loop-row l = (l.cells.entries ++ map cell_row l.row-iterator.rest.items ≡ map cell_row l.fn.rows.items) × AreSmall l.cells.entries
