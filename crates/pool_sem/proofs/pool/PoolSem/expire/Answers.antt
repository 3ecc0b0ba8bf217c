use Rattle.std.proofs.Common.{◌≡◌, ◌<◌, ◌==◌, ◌&&◌, ◌||◌, ◌∙◌, ℕ, Option, None, Some, Bool, true, false, not, cond, ap, sym}
use Rattle.std.specs.Prelude.{nat_eq, is_some}
use Rattle.std.specs.Option.{option_eq}
use Rattle.token_sem.specs.declared.entry.SemEntry.{SemEntry}
use Rattle.token_sem.specs.declared.entry.Expired.{Expired}
use Rattle.token_sem.specs.Semaphore.{is_queued, without}
use Rattle.token_sem.specs.Entries as of_any
use Rattle.token_sem.specs.Entries.{Table}
use Rattle.token_sem.proofs.Keeping.{among-find}
use Rattle.pool_sem.specs.Marks.{is_marked}
use Rattle.pool_sem.specs.Pools.{Pool, after_leaving, grant_leaving}
use Rattle.pool_sem.proofs.Freeing.{left, cancelled}
use Rattle.pool_sem.proofs.Kept.{left-marked, left-place, placed-in, cancelled-marked}
use Rattle.pool_sem.proofs.pool.PoolSem.expire.Goals as goal

pub end-expired-requires-clause-placed : goal.end-expired-requires-clause-placed
end-expired-requires-clause-placed c =
    let p : Pool = record { tokens = c.self.inside.tokens; made = c.self.inside.made; entries = c.self.inside.entries.list } in
    let found = among-find (λ e. e.number == c.args.entry) p.entries c.in-Some.ended (sym c.in-Some.ensures.entry) in
    placed-in p c.self.inside.entries.named c.in-Some.ended c.self.invariant.0 c.self.invariant.2 found.0

pub free-requires : goal.free-requires
free-requires c =
    let p : Pool = record { tokens = c.self.inside.tokens; made = c.self.inside.made; entries = c.self.inside.entries.list } in
    let found = among-find (λ e. e.number == c.args.entry) p.entries c.in-Some.ended (sym c.in-Some.ensures.entry) in
    let waited : is_queued c.in-Some.ended ≡ false = sym (ap (λ (x : Expired). x.waited) c.end-expired.ensures.told) ∙ c.if-not-expired.true in
    left-place p c.in-Some.ended c.self.invariant.0 found.0 (ap not waited)

pub invariant_of-self : goal.invariant_of-self
invariant_of-self c =
    let p : Pool = record { tokens = c.self.inside.tokens; made = c.self.inside.made; entries = c.self.inside.entries.list } in
    let e : SemEntry = c.in-Some.ended in
    let found = among-find (λ e. e.number == c.args.entry) p.entries e (sym c.in-Some.ensures.entry) in
    let waited : is_queued e ≡ false = sym (ap (λ (x : Expired). x.waited) c.end-expired.ensures.told) ∙ c.if-not-expired.true in
    let holds = ap not waited in
    let gone : c.end-expired.new.self.list ≡ after_leaving e c.args.now p.entries =
    ap (λ (t : Table). t.list) c.end-expired.ensures.state ∙ ap (λ (o : Option ℕ). of_any.after_end o e c.args.now p.entries) c.self.invariant.2 ∙ ap (λ (b : Bool). cond b (without e.number p.entries) (after_leaving e c.args.now p.entries)) waited in
    let told : c.is_some.result ≡ is_some (grant_leaving e p.entries) =
    c.is_some.ensures
    ∙ ap is_some (ap (λ (x : Expired). x.grant) c.end-expired.ensures.told ∙ ap (λ (o : Option ℕ). (of_any.expired_of o e p.entries).grant) c.self.invariant.2
    ∙ ap (λ (b : Bool). cond b None (grant_leaving e p.entries)) waited) in
    let had : (u : ℕ) → u < 256 → is_marked c.free.new.self u ≡ ((is_some (grant_leaving e p.entries) || not (option_eq nat_eq e.token (Some u))) && is_marked c.self.inside.marks u) =
    λ u lt. c.free.ensures u lt ∙ ap (λ b. (b || not (option_eq nat_eq e.token (Some u))) && is_marked c.self.inside.marks u) told in (
      rw gone (left p e c.args.now c.self.invariant.0 found.0 holds),
      rw gone (left-marked c.self.inside.marks c.free.new.self p e c.args.now c.self.invariant.0 found.0 holds c.self.invariant.1 had),
      ap (λ (t : Table). t.named) c.end-expired.ensures.state ∙ c.self.invariant.2,
    )

pub invariant_of-self-else-not-expired : goal.invariant_of-self-else-not-expired
invariant_of-self-else-not-expired c =
    let p : Pool = record { tokens = c.self.inside.tokens; made = c.self.inside.made; entries = c.self.inside.entries.list } in
    let e : SemEntry = c.in-Some.ended in
    let found = among-find (λ e. e.number == c.args.entry) p.entries e (sym c.in-Some.ensures.entry) in
    let waited : is_queued e ≡ true = sym (ap (λ (x : Expired). x.waited) c.end-expired.ensures.told) ∙ c.if-not-expired.false in
    let gone : c.end-expired.new.self.list ≡ without e.number p.entries =
    ap (λ (t : Table). t.list) c.end-expired.ensures.state ∙ ap (λ (b : Bool). cond b (without e.number p.entries) (of_any.left c.self.inside.entries.named e c.args.now p.entries)) waited in (
      rw gone (cancelled p e c.self.invariant.0 found.0 waited),
      rw gone (cancelled-marked c.self.inside.marks p e c.self.invariant.0 found.0 waited c.self.invariant.1),
      ap (λ (t : Table). t.named) c.end-expired.ensures.state ∙ c.self.invariant.2,
    )
