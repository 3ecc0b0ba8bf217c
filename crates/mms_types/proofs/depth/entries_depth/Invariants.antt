use Rattle.std.proofs.Common.{◌≡◌, ◌≤◌, take}
use Rattle.mms_types.specs.Depths.{entries_depth}
use Rattle.mms_types.proofs.depth.entries_depth.Given as goal

-- the deepest of the entries up to the index, none of which is deeper than 10
abbrev pub invariant-loop-entry : goal.invariant-loop-entry
invariant-loop-entry l = (l.found ≡ entries_depth (take l.entry-index l.entries)) × (l.found ≤ 10)
