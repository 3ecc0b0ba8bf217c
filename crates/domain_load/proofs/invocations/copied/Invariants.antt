use Rattle.std.proofs.Common.{◌≡◌, take}
use Rattle.domain_load.proofs.invocations.copied.Given as goal

-- the names up to the index are copied
abbrev pub invariant-loop-name : goal.invariant-loop-name
invariant-loop-name l = l.copies.items ≡ take l.name-index l.names
