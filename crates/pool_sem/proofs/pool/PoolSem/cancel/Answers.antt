use Rattle.std.proofs.Common.{◌≡◌, ◌∙◌, Some, true, ap, option_map, subst, sym}
use Rattle.token_sem.specs.Semaphore.{numbered, is_queued, without}
use Rattle.token_sem.specs.Entries.{Table}
use Rattle.pool_sem.specs.Pools.{Pool}
use Rattle.pool_sem.proofs.Freeing.{cancel-keeps}
use Rattle.pool_sem.proofs.Kept.{cancel-marked}
use Rattle.pool_sem.proofs.pool.PoolSem.cancel.Goals as goal

pub invariant_of-self : goal.invariant_of-self
invariant_of-self c =
    let p : Pool = record { tokens = c.self.inside.tokens; made = c.self.inside.made; entries = c.self.inside.entries.list } in
    let waits : option_map is_queued (numbered c.args.entry p.entries) ≡ Some true =
    subst (λ (q : Pool). option_map is_queued (numbered c.args.entry q.entries) ≡ Some true) (sym c.self.view_is) c.requires.queued in
    let gone : c.remove.new.self.list ≡ without c.args.entry p.entries = ap (λ (t : Table). t.list) c.remove.ensures in (
      rw gone (cancel-keeps p c.args.entry c.self.invariant.0 waits),
      rw gone (cancel-marked c.self.inside.marks p c.args.entry c.self.invariant.0 waits c.self.invariant.1),
      ap (λ (t : Table). t.named) c.remove.ensures ∙ c.self.invariant.2,
    )
