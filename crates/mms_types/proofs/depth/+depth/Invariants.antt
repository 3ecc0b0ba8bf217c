use Rattle.std.proofs.Common.{◌≡◌, ◌≤◌, take}
use Rattle.mms_types.specs.Datum.{row, deepest}
use Rattle.mms_types.proofs.depth.+depth.Given as goal

-- the deepest of the parts up to the index, none of which is deeper than 10
abbrev pub invariant-deepest_of-loop-item : goal.invariant-deepest_of-loop-item
invariant-deepest_of-loop-item l = (l.found ≡ deepest (row (take l.item-index l.items))) × (l.found ≤ 10)
