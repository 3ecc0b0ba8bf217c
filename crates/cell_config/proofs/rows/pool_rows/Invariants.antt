use Rattle.std.proofs.Common.{◌≡◌, ◌++◌, map, drop}
use Rattle.toml.specs.View.{items_view}
use Rattle.cell_config.specs.Rows.{tables_in, pool_told}
use Rattle.cell_config.specs.Seen.{pool_seen}
use Rattle.cell_config.proofs.rows.pool_rows.Given as goal

-- the rows so far, and then those of the items that are left
abbrev pub invariant-loop-item : goal.invariant-loop-item
invariant-loop-item l = map pool_seen l.rows.items ++ map pool_told (tables_in (items_view (drop l.item-index l.item-items))) ≡ map pool_told (tables_in (items_view l.item-items))
