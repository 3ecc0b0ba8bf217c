use Rattle.std.proofs.Common.{◌≡◌, map, drop}
use Rattle.std.specs.List.{list_all}
use Rattle.mms_types.specs.Spelling.{is_identifier}
use Rattle.cell_config.proofs.pools.are_identifiers.Given as goal

-- those that are left are identifiers where all are
abbrev pub invariant-loop-text : goal.invariant-loop-text
invariant-loop-text l = list_all (is_identifier l.edition) (map (λ t. t.now) (drop l.text-index l.texts)) ≡ list_all (is_identifier l.edition) (map (λ t. t.now) l.texts)
