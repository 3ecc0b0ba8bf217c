use Rattle.std.proofs.Common.{◌≡◌, true, ◌++◌, map, drop}
use Rattle.std.specs.List.{list_all}
use Rattle.cell_config.specs.Cells.{is_number, are_named, named_cell}
use Rattle.cell_config.specs.Seen.{variable_seen}
use Rattle.cell_config.proofs.variables.named_cells.Given as goal

-- the variables so far and those that are left are all
abbrev pub invariant-loop-variable : goal.invariant-loop-variable
invariant-loop-variable l =
    (are_named l.edition (map variable_seen (drop l.variable-index l.variables)) ≡ true)
    × (list_all (λ variable. is_number variable.cell) (map variable_seen (drop l.variable-index l.variables)) ≡ true)
    × (l.named ++ map named_cell (map variable_seen (drop l.variable-index l.variables)) ≡ map named_cell (map variable_seen l.variables))
