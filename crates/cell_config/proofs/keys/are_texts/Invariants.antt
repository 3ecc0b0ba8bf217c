use Rattle.std.proofs.Common.{◌≡◌, drop}
use Rattle.toml.specs.View.{items_view}
use Rattle.cell_config.specs.Rows.{all_texts}
use Rattle.cell_config.proofs.keys.are_texts.Given as goal

-- the items that are left are texts where all are
abbrev pub invariant-loop-item : goal.invariant-loop-item
invariant-loop-item l = all_texts (items_view (drop l.item-index l.items)) ≡ all_texts (items_view l.items)
