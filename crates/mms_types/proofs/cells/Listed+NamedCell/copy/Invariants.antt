use Rattle.std.proofs.Common.{◌≡◌, take}
use Rattle.mms_types.proofs.cells.Listed+NamedCell.copy.Given as goal

-- the variables up to the index are copied
abbrev pub invariant-loop-variable : goal.invariant-loop-variable
invariant-loop-variable l = l.variables ≡ take l.variable-index l.self
