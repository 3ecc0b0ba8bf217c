use Rattle.std.proofs.Common.{◌≡◌, ◌∙◌, Some, ap, subst, sym}
use Rattle.std.specs.Prelude.{IfSome}
use Rattle.token_sem.specs.Semaphore.{numbered}
use Rattle.pool_sem.specs.Pools.{Pool, owner_of}
use Rattle.pool_sem.proofs.Kept.{owner-stands}
use Rattle.pool_sem.proofs.pool.PoolSem.owner_of.Goals as goal

pub owner_of-requires : goal.owner_of-requires
owner_of-requires c = rw c.as_slice.ensures.entries c.self.invariant.0.once

pub returns : goal.returns
returns c =
    let p : Pool = record { tokens = c.self.inside.tokens; made = c.self.inside.made; entries = c.self.inside.entries.list } in
    let is : c.owner_of.result ≡ owner_of c.args.client c.args.token p.entries = c.owner_of.ensures ∙ ap (owner_of c.args.client c.args.token) c.as_slice.ensures.entries in
    let stands = owner-stands p c.args.client c.args.token c.owner_of.result c.self.invariant.0 (sym is) in
    record {
      owner = is ∙ ap (λ (q : Pool). owner_of c.args.client c.args.token q.entries) c.self.view_is;
      there = subst (λ (q : Pool). IfSome c.owner_of.result (λ e. numbered e.number q.entries ≡ Some e)) c.self.view_is stands.0;
      holds = stands.1;
    }
