use Rattle.std.proofs.Common.{◌≡◌, take}
use Rattle.attach_sem.proofs.table.copied.Given as goal

-- the requests up to the index are copied
abbrev pub invariant-loop-pair : goal.invariant-loop-pair
invariant-loop-pair l = l.copies.items ≡ take l.pair-index l.pairs
