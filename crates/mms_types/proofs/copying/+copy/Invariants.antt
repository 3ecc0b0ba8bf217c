use Rattle.std.proofs.Common.{◌≡◌, take}
use Rattle.mms_types.proofs.copying.+copy.Given as goal

-- the parts up to the index are copied
abbrev pub invariant-copied_all-loop-item : goal.invariant-copied_all-loop-item
invariant-copied_all-loop-item l = l.found.items ≡ take l.item-index l.from
