use Rattle.std.proofs.Common.{◌≡◌, ◌++◌, map, drop}
use Rattle.toml.specs.View.{items_view}
use Rattle.cell_config.specs.Rows.{tables_in, cell_told}
use Rattle.cell_config.specs.Seen.{cell_seen}
use Rattle.cell_config.proofs.rows.cell_rows.Given as goal

-- the rows so far, and then those of the items that are left
abbrev pub invariant-loop-item : goal.invariant-loop-item
invariant-loop-item l = map cell_seen l.rows.items ++ map cell_told (tables_in (items_view (drop l.item-index l.item-items))) ≡ map cell_told (tables_in (items_view l.item-items))
