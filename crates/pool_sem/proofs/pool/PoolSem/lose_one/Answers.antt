use Rattle.std.proofs.Common.{◌≡◌, ◌∙◌, length, [], ap}
use Rattle.token_sem.specs.Semaphore.{Loss}
use Rattle.token_sem.specs.Entries.{Table}
use Rattle.pool_sem.specs.Pools.{Pool, lose_one, lost_one}
use Rattle.pool_sem.proofs.Kept.{lose_one-in, lost_one-in}
use Rattle.pool_sem.proofs.Losing.{lose_one-keeps}
use Rattle.pool_sem.proofs.pool.PoolSem.lose_one.Goals as goal

pub invariant_of-self : goal.invariant_of-self
invariant_of-self c =
    let p : Pool = record { tokens = c.self.inside.tokens; made = c.self.inside.made; entries = c.self.inside.entries.list } in
    let state : c.lose_one-lost.new.self.list ≡ (lose_one c.args.client c.args.now (record { entries = p.entries; grants = [] })).entries =
    ap (λ (t : Table). t.list) c.lose_one-lost.ensures.state ∙ ap (λ (l : Loss). l.entries) (lose_one-in c.self.inside.entries.named (length p.tokens) c.args.client c.args.now (record { entries = p.entries; grants = [] }) c.self.invariant.2) in (
      rw state (lose_one-keeps p c.args.client c.args.now c.self.invariant.0),
      rw c.as_slice-entries.ensures.entries at c.of-self-inside.ensures,
      ap (λ (t : Table). t.named) c.lose_one-lost.ensures.state ∙ c.self.invariant.2,
    )
