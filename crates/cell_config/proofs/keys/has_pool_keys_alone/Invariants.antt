use Rattle.std.proofs.Common.{◌≡◌}
use Rattle.toml.specs.View.{members_view}
use Rattle.cell_config.specs.Rows.{all_keys, is_pool_key}
use Rattle.cell_config.proofs.keys.has_pool_keys_alone.Given as goal

-- what is left passes where the whole row does
abbrev pub invariant-loop-key : goal.invariant-loop-key
invariant-loop-key l = all_keys is_pool_key (members_view l.key-iterator) ≡ all_keys is_pool_key (members_view l.row.entries)
