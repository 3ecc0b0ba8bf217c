use Rattle.std.proofs.Common.{◌≡◌, take}
use Rattle.mms_types.proofs.variable.Listed+Spec.copy.Given as goal

-- the variables up to the index are copied
abbrev pub invariant-loop-spec : goal.invariant-loop-spec
invariant-loop-spec l = l.specs ≡ take l.spec-index l.self
