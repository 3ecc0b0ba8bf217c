use Rattle.std.proofs.Common.{◌≡◌, ◌++◌, map, drop}
use Rattle.cell_config.specs.Seen.{pool_seen}
use Rattle.cell_config.proofs.pools.names.Given as goal

-- the names so far and those of the pools that are left are all
abbrev pub invariant-loop-pool : goal.invariant-loop-pool
invariant-loop-pool l =
    map (λ t. t.now) l.names.items ++ map (λ pool. pool.name) (map pool_seen (drop l.pool-index l.pools)) ≡ map (λ pool. pool.name) (map pool_seen l.pools)
