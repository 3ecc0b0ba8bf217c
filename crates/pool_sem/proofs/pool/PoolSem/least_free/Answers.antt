use Rattle.std.proofs.Common.{◌≡◌, ◌<◌, ◌≤◌, None, Some, length, ap, subst, sym, ◌∙◌, arith}
use Rattle.pool_sem.specs.Pools.{Pool, free_token}
use Rattle.pool_sem.proofs.Least.{least-found, least-missing}
use Rattle.pool_sem.proofs.pool.PoolSem.least_free.Goals as goal

pub returns-then-token-count : goal.returns-then-token-count
returns-then-token-count c =
    let p : Pool = record { tokens = c.self.inside.tokens; made = c.self.inside.made; entries = c.self.inside.entries.list } in
    let token = c.first_free-token in
    let count : c.count.result ≡ length p.tokens = c.count.ensures ∙ sym (ap (λ (q : Pool). length q.tokens) c.self.view_is) in
    let below : token.result < length p.tokens = (let lt = c.if-token-count.true in omega arith) in
    subst (λ (q : Pool). Some token.result ≡ free_token None (length q.tokens) q.entries) c.self.view_is
    (sym (least-found c.self.inside.marks p.entries (length p.tokens) token.result c.self.invariant.1 c.self.invariant.0.few token.ensures.before token.ensures.there below))

pub returns-else-token-count : goal.returns-else-token-count
returns-else-token-count c =
    let p : Pool = record { tokens = c.self.inside.tokens; made = c.self.inside.made; entries = c.self.inside.entries.list } in
    let token = c.first_free-token in
    let count : c.count.result ≡ length p.tokens = c.count.ensures ∙ sym (ap (λ (q : Pool). length q.tokens) c.self.view_is) in
    let past : length p.tokens ≤ token.result = (let le = c.if-token-count.false in omega arith) in
    subst (λ (q : Pool). None ≡ free_token None (length q.tokens) q.entries) c.self.view_is
    (sym (least-missing c.self.inside.marks p.entries (length p.tokens) token.result c.self.invariant.1 c.self.invariant.0.few token.ensures.before past))
