use Rattle.std.proofs.Common.{◌≡◌, take}
use Rattle.mms_types.proofs.cells.Listed+PoolRow.copy.Given as goal

-- the pools up to the index are copied
abbrev pub invariant-loop-pool : goal.invariant-loop-pool
invariant-loop-pool l = l.pools ≡ take l.pool-index l.self
