use Rattle.std.proofs.Common.{◌≡◌, ◌++◌, map}
use Rattle.std.specs.List.{AllByRecursion}
use Rattle.mms_time.specs.Opening.{HasTokens, configured, pool_row}
use Rattle.mms_time.proofs.opening.configured.Given as goal

-- the pools so far, and then those that are left, each of which has tokens
abbrev pub invariant-loop-row : goal.invariant-loop-row
invariant-loop-row l = (l.semaphores ++ map pool_row l.row-iterator.rest.items ≡ configured l.fn.pools) × AllByRecursion HasTokens l.row-iterator.rest.items
