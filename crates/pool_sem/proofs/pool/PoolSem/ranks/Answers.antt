use Rattle.std.proofs.Common.{◌≡◌, ◌∙◌, Option, ℕ, ap}
use Rattle.token_sem.specs.Entries.{lists_of, rows_of}
use Rattle.pool_sem.proofs.pool.PoolSem.ranks.Goals as goal

pub returns-clause-tokens : goal.returns-clause-tokens
returns-clause-tokens c =
    rw (← c.self.view_is) (c.ranks.ensures.tokens ∙ ap (λ (o : Option ℕ). lists_of o) c.self.invariant.2)
