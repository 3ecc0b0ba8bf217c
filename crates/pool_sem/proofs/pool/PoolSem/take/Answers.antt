use Rattle.std.proofs.Common.{◌≡◌, ◌+◌, ◌++◌, ◌∷◌, [], Some, None, true, length, ◌∙◌, ap, refl, subst, sym}
use Rattle.token_sem.specs.declared.entry.Ask.{Ask}
use Rattle.token_sem.specs.declared.entry.SemEntry.{SemEntry}
use Rattle.token_sem.specs.Semaphore.{without}
use Rattle.pool_sem.specs.declared.outcome.PoolOutcome.TheVariants.{Preempts, Gets, WaitsUntil, WaitsForEver}
use Rattle.pool_sem.specs.Pools.{Pool, IsPool, outcome, owner_entry, queued_entry, after_take, is_place}
use Rattle.token_sem.specs.Entries.{Table}
use Rattle.pool_sem.proofs.Taking.{outcome-preempts, preempted-state, swapped, take-keeps, took-keeps}
use Rattle.pool_sem.proofs.Kept.{gets-place, got-in, preempted-in, owner-marked, preempted-marked, waiter-marked}
use Rattle.pool_sem.proofs.pool.PoolSem.take.Goals as goal

pub set-requires : goal.set-requires
set-requires c =
    let p : Pool = record { tokens = c.self.inside.tokens; made = c.self.inside.made; entries = c.self.inside.entries.list } in
    let is : outcome p c.args.ask.now c.args.now ≡ Gets c.in-Gets.token = cc in
    gets-place p c.args.ask.now c.args.now c.in-Gets.token c.self.invariant.0 is

pub invariant_of-self-in-Gets : goal.invariant_of-self-in-Gets
invariant_of-self-in-Gets c =
    let p : Pool = record { tokens = c.self.inside.tokens; made = c.self.inside.made; entries = c.self.inside.entries.list } in
    let ask : Ask = c.args.ask.now in
    let there : is_place (length p.tokens) ask.token ≡ true = subst (λ (q : Pool). is_place (length q.tokens) ask.token ≡ true) (sym c.self.view_is) c.requires.place in
    let is : outcome p ask c.args.now ≡ Gets c.in-Gets.token = cc in
    let items : c.add.new.self.list ≡ p.entries ++ owner_entry (p.made + 1) ask (Some c.in-Gets.token) c.args.now ∷ [] = ap (λ (t : Table). t.list) c.in_ok-add-in-Gets.ensures.ok ∙ cc in (
      rw items (took-keeps (Gets c.in-Gets.token) p ask c.args.now c.self.invariant.0 there is),
      rw items (owner-marked c.self.inside.marks c.set.new.self p.entries (p.made + 1) c.in-Gets.token ask c.args.now c.self.invariant.1 c.set.ensures),
      ap (λ (t : Table). t.named) c.in_ok-add-in-Gets.ensures.ok ∙ c.self.invariant.2,
    )

pub invariant_of-self-in-WaitsUntil : goal.invariant_of-self-in-WaitsUntil
invariant_of-self-in-WaitsUntil c =
    let p : Pool = record { tokens = c.self.inside.tokens; made = c.self.inside.made; entries = c.self.inside.entries.list } in
    let ask : Ask = c.args.ask.now in
    let there : is_place (length p.tokens) ask.token ≡ true = subst (λ (q : Pool). is_place (length q.tokens) ask.token ≡ true) (sym c.self.view_is) c.requires.place in
    let is : outcome p ask c.args.now ≡ WaitsUntil c.in-WaitsUntil.deadline = cc in
    let items : c.add-in-WaitsUntil.new.self.list ≡ p.entries ++ queued_entry (p.made + 1) ask (Some c.in-WaitsUntil.deadline) ∷ [] = ap (λ (t : Table). t.list) c.in_ok-add-in-WaitsUntil.ensures.ok ∙ cc in (
      rw items (took-keeps (WaitsUntil c.in-WaitsUntil.deadline) p ask c.args.now c.self.invariant.0 there is),
      rw items (waiter-marked c.self.inside.marks p.entries (p.made + 1) ask (Some c.in-WaitsUntil.deadline) c.self.invariant.1),
      ap (λ (t : Table). t.named) c.in_ok-add-in-WaitsUntil.ensures.ok ∙ c.self.invariant.2,
    )

pub invariant_of-self-in-WaitsForEver : goal.invariant_of-self-in-WaitsForEver
invariant_of-self-in-WaitsForEver c =
    let p : Pool = record { tokens = c.self.inside.tokens; made = c.self.inside.made; entries = c.self.inside.entries.list } in
    let ask : Ask = c.args.ask.now in
    let there : is_place (length p.tokens) ask.token ≡ true = subst (λ (q : Pool). is_place (length q.tokens) ask.token ≡ true) (sym c.self.view_is) c.requires.place in
    let is : outcome p ask c.args.now ≡ WaitsForEver = cc in
    let items : c.add-in-WaitsForEver.new.self.list ≡ p.entries ++ queued_entry (p.made + 1) ask None ∷ [] = ap (λ (t : Table). t.list) c.in_ok-add-in-WaitsForEver.ensures.ok ∙ cc in (
      rw items (took-keeps WaitsForEver p ask c.args.now c.self.invariant.0 there is),
      rw items (waiter-marked c.self.inside.marks p.entries (p.made + 1) ask None c.self.invariant.1),
      ap (λ (t : Table). t.named) c.in_ok-add-in-WaitsForEver.ensures.ok ∙ c.self.invariant.2,
    )

pub invariant_of-self-in-Preempts : goal.invariant_of-self-in-Preempts
invariant_of-self-in-Preempts c =
    let p : Pool = record { tokens = c.self.inside.tokens; made = c.self.inside.made; entries = c.self.inside.entries.list } in
    let ask : Ask = c.args.ask.now in
    let new : SemEntry = owner_entry (p.made + 1) ask c.in-Preempts.token c.args.now in
    let there : is_place (length p.tokens) ask.token ≡ true = subst (λ (q : Pool). is_place (length q.tokens) ask.token ≡ true) (sym c.self.view_is) c.requires.place in
    let is : outcome p ask c.args.now ≡ Preempts c.in-Preempts.hung c.in-Preempts.token = cc in
    let items : c.add-in-Preempts.new.self.list ≡ p.entries ++ new ∷ [] = ap (λ (t : Table). t.list) c.in_ok-add-in-Preempts.ensures.ok ∙ cc in
    let state = preempted-state p ask c.args.now c.in-Preempts.hung c.in-Preempts.token _ c.self.invariant.0 is (ap (λ (t : Table). t.list) c.remove.ensures ∙ ap (without c.in-Preempts.hung) items) in
    let hung = outcome-preempts p ask c.args.now c.in-Preempts.hung c.in-Preempts.token is in
    let both : c.remove.new.self.list ≡ without c.in-Preempts.hung p.entries ++ new ∷ [] =
    ap (λ (t : Table). t.list) c.remove.ensures ∙ ap (without c.in-Preempts.hung) items ∙ swapped p new c.in-Preempts.hung c.in-Preempts.token c.self.invariant.0 hung refl in (
      subst IsPool (sym state) (take-keeps p ask c.args.now c.self.invariant.0 there),
      rw both (preempted-marked c.self.inside.marks p (p.made + 1) c.in-Preempts.hung c.in-Preempts.token ask c.args.now c.self.invariant.0 hung c.self.invariant.1),
      ap (λ (t : Table). t.named) c.remove.ensures ∙ ap (λ (t : Table). t.named) c.in_ok-add-in-Preempts.ensures.ok ∙ c.self.invariant.2,
    )

pub returns-in_ok-add-in-Preempts-clause-state : goal.returns-in_ok-add-in-Preempts-clause-state
returns-in_ok-add-in-Preempts-clause-state c _ =
    let p : Pool = record { tokens = c.self.inside.tokens; made = c.self.inside.made; entries = c.self.inside.entries.list } in
    let is : outcome p c.args.ask.now c.args.now ≡ Preempts c.in-Preempts.hung c.in-Preempts.token = cc in
    let items : c.add-in-Preempts.new.self.list ≡ p.entries ++ owner_entry (p.made + 1) c.args.ask.now c.in-Preempts.token c.args.now ∷ [] = ap (λ (t : Table). t.list) c.in_ok-add-in-Preempts.ensures.ok ∙ cc in
    preempted-state p c.args.ask.now c.args.now c.in-Preempts.hung c.in-Preempts.token _ c.self.invariant.0 is (ap (λ (t : Table). t.list) c.remove.ensures ∙ ap (without c.in-Preempts.hung) items)
    ∙ ap (λ (v : Pool). after_take v c.args.ask.now c.args.now) c.self.view_is

pub add-requires-clause-placed : goal.add-requires-clause-placed
add-requires-clause-placed c =
    let p : Pool = record { tokens = c.self.inside.tokens; made = c.self.inside.made; entries = c.self.inside.entries.list } in
    let is : outcome p c.args.ask.now c.args.now ≡ Gets c.in-Gets.token = cc in
    rw c.owner_entry.ensures (got-in p c.self.inside.entries.named c.args.ask.now c.args.now c.in-Gets.token c.self.invariant.0 c.self.invariant.2 is)

pub add-requires-in-Preempts-clause-placed : goal.add-requires-in-Preempts-clause-placed
add-requires-in-Preempts-clause-placed c =
    let p : Pool = record { tokens = c.self.inside.tokens; made = c.self.inside.made; entries = c.self.inside.entries.list } in
    let is : outcome p c.args.ask.now c.args.now ≡ Preempts c.in-Preempts.hung c.in-Preempts.token = cc in
    rw c.owner_entry-in-Preempts.ensures (preempted-in p c.self.inside.entries.named c.args.ask.now c.args.now c.in-Preempts.hung c.in-Preempts.token c.self.invariant.0 c.self.invariant.2 is)
