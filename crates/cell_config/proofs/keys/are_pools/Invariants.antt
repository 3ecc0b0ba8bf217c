use Rattle.std.proofs.Common.{◌≡◌, drop}
use Rattle.toml.specs.View.{items_view}
use Rattle.cell_config.specs.Rows.{all_tables, is_pool_row}
use Rattle.cell_config.proofs.keys.are_pools.Given as goal

-- the items that are left pass where all do
abbrev pub invariant-loop-item : goal.invariant-loop-item
invariant-loop-item l = all_tables is_pool_row (items_view (drop l.item-index l.item-items)) ≡ all_tables is_pool_row (items_view l.item-items)
