use Rattle.std.proofs.Common.{◌≡◌, ◌≤◌, ◌+◌, count_by, length, arith}
use Rattle.token_sem.specs.Semaphore.{is_hung, is_owner}
use Rattle.pool_sem.proofs.Bounding.{held-most}
use Rattle.pool_sem.proofs.pool.PoolSem.owned.Goals as goal

pub overflow_cast-result : goal.overflow_cast-result
overflow_cast-result c =
    let most : count_by is_owner c.self.inside.entries.list + count_by is_hung c.self.inside.entries.list ≤ length c.self.inside.tokens = held-most _ c.self.invariant.0 in
    let few : length c.self.inside.tokens ≤ 256 = c.self.invariant.0.few in
    let is : c.owned.result ≡ count_by is_owner c.self.inside.entries.list = cc in
    omega arith
