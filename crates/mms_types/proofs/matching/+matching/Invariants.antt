use Rattle.std.proofs.Common.{◌≡◌, drop, length, ◌-◌}
use Rattle.mms_types.specs.Datum.{row}
use Rattle.mms_types.specs.SeenType.{fields}
use Rattle.mms_types.specs.Matches.{all_match, each_matches}
use Rattle.mms_types.proofs.matching.+matching.Given as goal

-- the parts up to the index match
abbrev pub invariant-all_match-loop-item : goal.invariant-all_match-loop-item
invariant-all_match-loop-item l = all_match (row l.items) l.of ≡ all_match (row (drop l.item-index l.items)) l.of

abbrev pub invariant-each_matches-loop-i : goal.invariant-each_matches-loop-i
invariant-each_matches-loop-i l =
    (length l.items ≡ length l.components)
    × (each_matches (row l.items) (fields l.components) ≡ each_matches (row (drop l.i l.items)) (fields (drop l.i l.components)))

abbrev pub decreases-each_matches-loop-i : goal.decreases-each_matches-loop-i
decreases-each_matches-loop-i l = length l.items - l.i
