use Rattle.std.proofs.Common.{◌≡◌, ◌<◌, ◌==◌, ◌&&◌, ◌||◌, ℕ, Option, Some, not, ap, subst, sym, ◌∙◌}
use Rattle.std.specs.Prelude.{nat_eq, is_some}
use Rattle.std.specs.Option.{option_eq}
use Rattle.token_sem.specs.declared.entry.SemEntry.{SemEntry}
use Rattle.token_sem.specs.Semaphore.{numbered}
use Rattle.token_sem.specs.Entries as of_any
use Rattle.token_sem.specs.Entries.{Table}
use Rattle.token_sem.proofs.Keeping.{Among, among-find}
use Rattle.pool_sem.specs.Marks.{is_marked}
use Rattle.pool_sem.specs.Pools.{Pool, after_leaving, grant_leaving}
use Rattle.pool_sem.proofs.Freeing.{left}
use Rattle.pool_sem.proofs.Kept.{left-marked, left-place, placed-in}
use Rattle.pool_sem.proofs.pool.PoolSem.leave.Goals as goal

pub leave-grant-requires-clause-placed : goal.leave-grant-requires-clause-placed
leave-grant-requires-clause-placed c =
    let p : Pool = record { tokens = c.self.inside.tokens; made = c.self.inside.made; entries = c.self.inside.entries.list } in
    let e : SemEntry = c.args.entry.now in
    let there : numbered e.number p.entries ≡ Some e = subst (λ (q : Pool). numbered e.number q.entries ≡ Some e) (sym c.self.view_is) c.requires.there in
    placed-in p c.self.inside.entries.named e c.self.invariant.0 c.self.invariant.2 (among-find (λ x. x.number == e.number) p.entries e there).0

pub free-requires : goal.free-requires
free-requires c =
    let p : Pool = record { tokens = c.self.inside.tokens; made = c.self.inside.made; entries = c.self.inside.entries.list } in
    let e : SemEntry = c.args.entry.now in
    let there : numbered e.number p.entries ≡ Some e = subst (λ (q : Pool). numbered e.number q.entries ≡ Some e) (sym c.self.view_is) c.requires.there in
    let among : Among p.entries e = (among-find (λ x. x.number == e.number) p.entries e there).0 in
    left-place p e c.self.invariant.0 among c.requires.holds

pub invariant_of-self : goal.invariant_of-self
invariant_of-self c =
    let p : Pool = record { tokens = c.self.inside.tokens; made = c.self.inside.made; entries = c.self.inside.entries.list } in
    let e : SemEntry = c.args.entry.now in
    let there : numbered e.number p.entries ≡ Some e = subst (λ (q : Pool). numbered e.number q.entries ≡ Some e) (sym c.self.view_is) c.requires.there in
    let among : Among p.entries e = (among-find (λ x. x.number == e.number) p.entries e there).0 in
    let gone : c.leave-grant.new.self.list ≡ after_leaving e c.args.now p.entries =
    ap (λ (t : Table). t.list) c.leave-grant.ensures.state ∙ ap (λ (o : Option ℕ). of_any.left o e c.args.now p.entries) c.self.invariant.2 in
    let told : c.is_some.result ≡ is_some (grant_leaving e p.entries) =
    c.is_some.ensures ∙ ap is_some (c.leave-grant.ensures.grant ∙ ap (λ (o : Option ℕ). of_any.told_left o e p.entries) c.self.invariant.2) in
    let had : (u : ℕ) → u < 256 → is_marked c.free.new.self u ≡ ((is_some (grant_leaving e p.entries) || not (option_eq nat_eq e.token (Some u))) && is_marked c.self.inside.marks u) =
    λ u lt. c.free.ensures u lt ∙ ap (λ b. (b || not (option_eq nat_eq e.token (Some u))) && is_marked c.self.inside.marks u) told in (
      rw gone (left p e c.args.now c.self.invariant.0 among c.requires.holds),
      rw gone (left-marked c.self.inside.marks c.free.new.self p e c.args.now c.self.invariant.0 among c.requires.holds c.self.invariant.1 had),
      ap (λ (t : Table). t.named) c.leave-grant.ensures.state ∙ c.self.invariant.2,
    )
