use Rattle.std.proofs.Common.{◌≡◌, take}
use Rattle.mms_types.specs.Shape.{fields_depth}
use Rattle.mms_types.specs.SeenType.{fields}
use Rattle.mms_types.proofs.depth.+type_depth.Given as goal

-- the deepest of the components up to the index
abbrev pub invariant-deepest_component-loop-component : goal.invariant-deepest_component-loop-component
invariant-deepest_component-loop-component l = l.found ≡ fields_depth (fields (take l.component-index l.components))
