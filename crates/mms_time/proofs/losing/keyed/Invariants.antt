use Rattle.std.proofs.Common.{◌≡◌, take}
use Rattle.mms_time.specs.Loss.{keyed}
use Rattle.mms_time.proofs.losing.keyed.Given as goal

-- the grants up to the index are there
abbrev pub invariant-loop-grant : goal.invariant-loop-grant
invariant-loop-grant l = l.all.items ≡ keyed l.key (take l.grant-index l.grants)
