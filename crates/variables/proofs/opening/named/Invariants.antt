use Rattle.std.proofs.Common.{◌≡◌, ◌++◌, map}
use Rattle.variables.specs.Start.{variable_row}
use Rattle.variables.proofs.opening.named.Given as goal

-- the variables so far, and then those that are left
abbrev pub invariant-loop-row : goal.invariant-loop-row
invariant-loop-row l = l.variables ++ map variable_row l.row-iterator.rest.items ≡ map variable_row l.fn.rows.items
