use Rattle.std.proofs.Common.{◌≡◌, map, drop}
use Rattle.std.specs.List.{list_all}
use Rattle.cell_config.specs.Cells.{is_pool}
use Rattle.cell_config.specs.Seen.{pool_seen}
use Rattle.cell_config.proofs.pools.have_tokens.Given as goal

-- those that are left have tokens where all have
abbrev pub invariant-loop-pool : goal.invariant-loop-pool
invariant-loop-pool l = list_all (λ pool. is_pool pool.tokens) (map pool_seen (drop l.pool-index l.pools)) ≡ list_all (λ pool. is_pool pool.tokens) (map pool_seen l.pools)
