use Rattle.std.proofs.Common.{◌≡◌, ◌≤◌, take}
use Rattle.mms_types.specs.Depths.{variables_depth}
use Rattle.mms_types.proofs.depth.variables_depth.Given as goal

-- the deepest of the variables up to the index, none of which is deeper than 10
abbrev pub invariant-loop-variable : goal.invariant-loop-variable
invariant-loop-variable l = (l.found ≡ variables_depth (take l.variable-index l.variables)) × (l.found ≤ 10)
