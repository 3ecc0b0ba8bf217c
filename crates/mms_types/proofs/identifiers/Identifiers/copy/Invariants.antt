use Rattle.std.proofs.Common.{◌≡◌, take}
use Rattle.mms_types.proofs.identifiers.Identifiers.copy.Given as goal

-- the names up to the index are copied
abbrev pub invariant-loop-name : goal.invariant-loop-name
invariant-loop-name l = l.names ≡ take l.name-index l.self
