use Rattle.std.proofs.Common.{◌≡◌, drop, length, ◌-◌}
use Rattle.mms_types.specs.SeenType.{fields}
use Rattle.mms_types.specs.Equal.{fields_eq}
use Rattle.mms_types.proofs.equal.+same_type.Given as goal

-- the components up to the index are equal
abbrev pub invariant-same_components-loop-i : goal.invariant-same_components-loop-i
invariant-same_components-loop-i l =
    (length l.components ≡ length l.others) × (fields_eq (fields l.components) (fields l.others) ≡ fields_eq (fields (drop l.i l.components)) (fields (drop l.i l.others)))

abbrev pub decreases-same_components-loop-i : goal.decreases-same_components-loop-i
decreases-same_components-loop-i l = length l.components - l.i
