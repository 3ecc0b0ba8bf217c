-- The pools of a device at its start, as it is configured (this profile's choice).
use Rattle.std.specs.Prelude.{◌≤◌, nat_eq, true, List, [], map, length}
use Rattle.std.specs.List.{AllByRecursion, IsDistinct}
use Rattle.std.specs.Cmp.Lexicographic.{pointwise}
use Rattle.mms_types.specs.declared.cells.PoolRow.{PoolRow}
use Rattle.mms_types.specs.declared.key.Key.{Key}
use Rattle.mms_types.specs.declared.key.Scope.TheVariants.{Vmd}
use Rattle.object_names.specs.Listing.{sorted_names}
use Rattle.mms_time.specs.Semaphores.{Rows}
use Rattle.mms_time.specs.declared.row.Semaphore.TheVariants.{Pool}
use Rattle.mms_time.specs.declared.row.SemaphoreRow.{SemaphoreRow}

-- a configured pool is a semaphore of the VMD that can't be deleted; its tokens stand in order of octets, and are free
abbrev pub pool_row : PoolRow → Key × SemaphoreRow
pool_row pool = (
  record { scope = Vmd; item = pool.name },
  record { configured = true; semaphore = Pool (record { tokens = sorted_names pool.tokens; made = 0; entries = [] }) },
)

abbrev pub configured : List PoolRow → Rows
configured pools = map pool_row pools

-- 1 to 256 tokens, no two of one name
pub record HasTokens (pool : PoolRow) : Type 0 where
  pub distinct : IsDistinct (pointwise nat_eq) pool.tokens
  pub some : 1 ≤ length pool.tokens
  pub few : length pool.tokens ≤ 256

-- no two pools have one name, and each has tokens
pub record ArePools (pools : List PoolRow) : Type 0 where
  pub names : IsDistinct (pointwise nat_eq) (map (λ pool. pool.name) pools)
  pub each : AllByRecursion HasTokens pools
