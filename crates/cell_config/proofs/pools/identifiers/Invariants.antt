use Rattle.std.proofs.Common.{◌≡◌, true, ◌++◌, map, drop}
use Rattle.std.specs.List.{list_all}
use Rattle.mms_types.specs.Spelling.{is_identifier}
use Rattle.cell_config.proofs.pools.identifiers.Given as goal

-- the names so far and those that are left are all
abbrev pub invariant-loop-text : goal.invariant-loop-text
invariant-loop-text l =
    (list_all (is_identifier l.edition) (map (λ t. t.now) (drop l.text-index l.texts)) ≡ true)
    × (l.names ++ map (λ t. t.now) (drop l.text-index l.texts) ≡ map (λ t. t.now) l.texts)
