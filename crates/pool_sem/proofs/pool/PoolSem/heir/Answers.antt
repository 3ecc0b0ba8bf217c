use Rattle.std.proofs.Common.{◌≡◌, ◌==◌, Some, sym, subst}
use Rattle.token_sem.specs.declared.entry.SemEntry.{SemEntry}
use Rattle.token_sem.specs.Semaphore.{numbered}
use Rattle.token_sem.proofs.Keeping.{among-find}
use Rattle.pool_sem.specs.Pools.{Pool}
use Rattle.pool_sem.proofs.Kept.{placed-in}
use Rattle.pool_sem.proofs.pool.PoolSem.heir.Goals as goal

pub heir-requires-clause-placed : goal.heir-requires-clause-placed
heir-requires-clause-placed c =
    let p : Pool = record { tokens = c.self.inside.tokens; made = c.self.inside.made; entries = c.self.inside.entries.list } in
    let e : SemEntry = c.in-Some.owner in
    let there : numbered e.number p.entries ≡ Some e = subst (λ (q : Pool). numbered e.number q.entries ≡ Some e) (sym c.self.view_is) c.in-Some.ensures.there in
    placed-in p c.self.inside.entries.named e c.self.invariant.0 c.self.invariant.2 (among-find (λ x. x.number == e.number) p.entries e there).0
