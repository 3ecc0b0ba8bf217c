use Rattle.std.proofs.Common.{◌≡◌, map, drop}
use Rattle.cell_config.specs.Cells.{are_named_pools}
use Rattle.cell_config.specs.Seen.{pool_seen}
use Rattle.cell_config.proofs.pools.are_named_pools.Given as goal

-- those that are left have names where all have
abbrev pub invariant-loop-pool : goal.invariant-loop-pool
invariant-loop-pool l = are_named_pools l.edition (map pool_seen (drop l.pool-index l.pools)) ≡ are_named_pools l.edition (map pool_seen l.pools)
