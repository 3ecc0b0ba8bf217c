use Rattle.std.proofs.Common.{◌≡◌, ◌∙◌, length, ap}
use Rattle.token_sem.specs.Semaphore.{Loss}
use Rattle.token_sem.specs.Entries.{Table}
use Rattle.pool_sem.specs.Pools.{Pool, loss_of}
use Rattle.pool_sem.proofs.Kept.{loss-in}
use Rattle.pool_sem.proofs.Losing.{lose-keeps}
use Rattle.pool_sem.proofs.pool.PoolSem.lose.Goals as goal

pub invariant_of-self-2 : goal.invariant_of-self-2
invariant_of-self-2 c =
    let p : Pool = record { tokens = c.self.inside.tokens; made = c.self.inside.made; entries = c.self.inside.entries.list } in
    let state : c.lose.new.self.list ≡ (loss_of c.args.client c.args.now p.entries).entries =
    ap (λ (t : Table). t.list) c.in_ok-grants.ensures.state ∙ ap (λ (l : Loss). l.entries) (loss-in c.self.inside.entries.named (length p.tokens) c.args.client c.args.now p.entries c.self.invariant.2) in (
      rw state (lose-keeps p c.args.client c.args.now c.self.invariant.0),
      rw c.as_slice.ensures.entries at c.of-self-inside.ensures,
      ap (λ (t : Table). t.named) c.in_ok-grants.ensures.state ∙ c.self.invariant.2,
    )
