use Rattle.std.proofs.Common.{◌≡◌, take}
use Rattle.mms_types.proofs.cells.Listed+CellRow.copy.Given as goal

-- the cells up to the index are copied
abbrev pub invariant-loop-cell : goal.invariant-loop-cell
invariant-loop-cell l = l.cells ≡ take l.cell-index l.self
