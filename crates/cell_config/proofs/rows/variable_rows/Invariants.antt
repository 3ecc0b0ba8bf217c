use Rattle.std.proofs.Common.{◌≡◌, ◌++◌, map, drop}
use Rattle.toml.specs.View.{items_view}
use Rattle.cell_config.specs.Rows.{tables_in, variable_told}
use Rattle.cell_config.specs.Seen.{variable_seen}
use Rattle.cell_config.proofs.rows.variable_rows.Given as goal

-- the rows so far, and then those of the items that are left
abbrev pub invariant-loop-item : goal.invariant-loop-item
invariant-loop-item l = map variable_seen l.rows.items ++ map variable_told (tables_in (items_view (drop l.item-index l.item-items))) ≡ map variable_told (tables_in (items_view l.item-items))
