use Rattle.std.proofs.Common.{◌≡◌, take}
use Rattle.mms_types.proofs.domain.Listed+Octets.copy.Given as goal

-- the texts up to the index are copied
abbrev pub invariant-loop-text : goal.invariant-loop-text
invariant-loop-text l = l.texts ≡ take l.text-index l.self
