use Rattle.std.proofs.Common.{◌≡◌, map, drop}
use Rattle.cell_config.specs.Cells.{are_named}
use Rattle.cell_config.specs.Seen.{variable_seen}
use Rattle.cell_config.proofs.variables.are_named.Given as goal

-- those that are left have names where all have
abbrev pub invariant-loop-variable : goal.invariant-loop-variable
invariant-loop-variable l = are_named l.edition (map variable_seen (drop l.variable-index l.variables)) ≡ are_named l.edition (map variable_seen l.variables)
