use Rattle.std.proofs.Common.{◌≡◌, true, ◌++◌, map, drop}
use Rattle.std.specs.List.{list_all}
use Rattle.cell_config.specs.Cells.{is_number, are_guarded, are_typed, cell_row}
use Rattle.cell_config.specs.Seen.{cell_seen}
use Rattle.cell_config.proofs.cells.read_cells.Given as goal

-- the rows so far and those of the cells that are left are all, and those that are left have values of their types where all have
abbrev pub invariant-loop-cell : goal.invariant-loop-cell
invariant-loop-cell l =
    (list_all (λ cell. is_number cell.number) (map cell_seen (drop l.cell-index l.cells)) ≡ true)
    × (are_guarded l.edition (map cell_seen (drop l.cell-index l.cells)) ≡ true)
    × (l.rows ++ map (cell_row l.edition) (map cell_seen (drop l.cell-index l.cells)) ≡ map (cell_row l.edition) (map cell_seen l.cells))
    × (are_typed l.edition (map cell_seen (drop l.cell-index l.cells)) ≡ are_typed l.edition (map cell_seen l.cells))
