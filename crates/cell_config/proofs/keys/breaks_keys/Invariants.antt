use Rattle.std.proofs.Common.{◌≡◌}
use Rattle.toml.specs.View.{members_view}
use Rattle.cell_config.specs.Rules.{breaks_keys}
use Rattle.cell_config.proofs.keys.breaks_keys.Given as goal

-- what is left breaks the rule where the whole table does
abbrev pub invariant-loop-key : goal.invariant-loop-key
invariant-loop-key l = breaks_keys (members_view l.key-iterator) ≡ breaks_keys (members_view l.document.entries)
