use Rattle.std.proofs.Common.{◌≡◌, ◌<◌, ◌≤◌, None, Some, true, false, length, ap, subst, sym, ◌∙◌, arith}
use Rattle.pool_sem.specs.Pools.{Pool, free_token}
use Rattle.pool_sem.proofs.Finding.{named-found, named-missing}
use Rattle.pool_sem.proofs.Least.{free-marked}
use Rattle.pool_sem.proofs.pool.PoolSem.free_one.Goals as goal

pub has-requires : goal.has-requires
has-requires c =
    let p : Pool = record { tokens = c.self.inside.tokens; made = c.self.inside.made; entries = c.self.inside.entries.list } in
    let few : length p.tokens ≤ 256 = c.self.invariant.0.few in
    let count : c.count.result ≡ length p.tokens = c.count.ensures ∙ sym (ap (λ (q : Pool). length q.tokens) c.self.view_is) in
    omega arith

pub returns-then-token-count : goal.returns-then-token-count
returns-then-token-count c =
    let past : length c.args.self.now.tokens ≤ c.args.token = (let le = c.if-token-count.true in let count = c.count.ensures in omega arith) in
    sym (named-missing c.args.token (length c.args.self.now.tokens) c.args.self.now.entries (λ lt. absurd (omega arith)))

pub returns-then-has : goal.returns-then-has
returns-then-has c =
    let p : Pool = record { tokens = c.self.inside.tokens; made = c.self.inside.made; entries = c.self.inside.entries.list } in
    let few : length p.tokens ≤ 256 = c.self.invariant.0.few in
    let count : c.count.result ≡ length p.tokens = c.count.ensures ∙ sym (ap (λ (q : Pool). length q.tokens) c.self.view_is) in
    let below : c.args.token < 256 = (let lt = c.if-token-count.false in omega arith) in
    let had = free-marked c.self.inside.marks p.entries c.args.token true c.self.invariant.1 below (sym c.has.ensures ∙ c.if-has.true) in
    subst (λ (q : Pool). None ≡ free_token (Some c.args.token) (length q.tokens) q.entries) c.self.view_is
    (sym (named-missing c.args.token (length p.tokens) p.entries (λ lt. had)))

pub returns : goal.returns
returns c =
    let p : Pool = record { tokens = c.self.inside.tokens; made = c.self.inside.made; entries = c.self.inside.entries.list } in
    let few : length p.tokens ≤ 256 = c.self.invariant.0.few in
    let count : c.count.result ≡ length p.tokens = c.count.ensures ∙ sym (ap (λ (q : Pool). length q.tokens) c.self.view_is) in
    let there : c.args.token < length p.tokens = (let lt = c.if-token-count.false in omega arith) in
    let below : c.args.token < 256 = omega arith in
    let free = free-marked c.self.inside.marks p.entries c.args.token false c.self.invariant.1 below (sym c.has.ensures ∙ c.if-has.false) in
    subst (λ (q : Pool). Some c.args.token ≡ free_token (Some c.args.token) (length q.tokens) q.entries) c.self.view_is
    (sym (named-found c.args.token (length p.tokens) p.entries there free))
