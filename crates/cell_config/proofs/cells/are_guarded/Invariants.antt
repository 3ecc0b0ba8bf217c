use Rattle.std.proofs.Common.{◌≡◌, map, drop}
use Rattle.cell_config.specs.Cells.{are_guarded}
use Rattle.cell_config.specs.Seen.{cell_seen}
use Rattle.cell_config.proofs.cells.are_guarded.Given as goal

-- the guards of those that are left have names where all have
abbrev pub invariant-loop-cell : goal.invariant-loop-cell
invariant-loop-cell l = are_guarded l.edition (map cell_seen (drop l.cell-index l.cells)) ≡ are_guarded l.edition (map cell_seen l.cells)
