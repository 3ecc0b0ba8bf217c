use Rattle.std.proofs.Common.{◌≡◌, ◌++◌}
use Rattle.variables.proofs.opening.copied.Given as goal

-- the cells that are copied, and then those that are left, are all
abbrev pub invariant-loop-number : goal.invariant-loop-number
invariant-loop-number l = l.copies.entries ++ l.number-iterator ≡ l.cells.entries
