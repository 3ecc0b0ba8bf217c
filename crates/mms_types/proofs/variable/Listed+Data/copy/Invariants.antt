use Rattle.std.proofs.Common.{◌≡◌, take}
use Rattle.mms_types.proofs.variable.Listed+Data.copy.Given as goal

-- the data up to the index are copied
abbrev pub invariant-loop-value : goal.invariant-loop-value
invariant-loop-value l = l.values ≡ take l.value-index l.self
