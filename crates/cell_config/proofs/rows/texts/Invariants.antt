use Rattle.std.proofs.Common.{◌≡◌, ◌++◌, map, drop}
use Rattle.toml.specs.View.{items_view}
use Rattle.cell_config.specs.Rows.{texts_in}
use Rattle.cell_config.proofs.rows.texts.Given as goal

-- the texts so far, and then those of the items that are left
abbrev pub invariant-loop-item : goal.invariant-loop-item
invariant-loop-item l = map (λ t. t.now) l.texts.items ++ texts_in (items_view (drop l.item-index l.items)) ≡ texts_in (items_view l.items)
