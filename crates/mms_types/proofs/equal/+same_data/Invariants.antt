use Rattle.std.proofs.Common.{◌≡◌, drop, length, ◌-◌}
use Rattle.mms_types.specs.Datum.{row}
use Rattle.mms_types.specs.Equal.{row_eq}
use Rattle.mms_types.proofs.equal.+same_data.Given as goal

-- the parts up to the index are equal
abbrev pub invariant-same_parts-loop-i : goal.invariant-same_parts-loop-i
invariant-same_parts-loop-i l = (length l.items ≡ length l.others) × (row_eq (row l.items) (row l.others) ≡ row_eq (row (drop l.i l.items)) (row (drop l.i l.others)))

abbrev pub decreases-same_parts-loop-i : goal.decreases-same_parts-loop-i
decreases-same_parts-loop-i l = length l.items - l.i
