use Rattle.std.proofs.Common.{◌≡◌, ◌∙◌, false, subst, sym}
use Rattle.std.specs.List.{list_any}
use Rattle.token_sem.specs.Semaphore.{is_queued}
use Rattle.pool_sem.specs.Pools.{Pool}
use Rattle.pool_sem.proofs.Kept.{no-claim}
use Rattle.pool_sem.proofs.pool.PoolSem.is_waiting.Goals as goal

pub returns-else-waits : goal.returns-else-waits
returns-else-waits c =
    let none : list_any is_queued c.self.inside.entries.list ≡ false = sym c.waits-waits.ensures ∙ c.if-waits.false in
    sym (no-claim c.args.client c.args.self.now.entries (subst (λ (q : Pool). list_any is_queued q.entries ≡ false) c.self.view_is none))
