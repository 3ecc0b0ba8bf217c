use Rattle.std.proofs.Common.{◌≡◌, true, ◌++◌, map, drop}
use Rattle.cell_config.specs.Cells.{are_named_pools, pool_row}
use Rattle.cell_config.specs.Seen.{pool_seen}
use Rattle.cell_config.proofs.pools.read_pools.Given as goal

-- the pools so far and those that are left are all
abbrev pub invariant-loop-pool : goal.invariant-loop-pool
invariant-loop-pool l =
    (are_named_pools l.edition (map pool_seen (drop l.pool-index l.pools)) ≡ true)
    × (l.rows ++ map pool_row (map pool_seen (drop l.pool-index l.pools)) ≡ map pool_row (map pool_seen l.pools))
