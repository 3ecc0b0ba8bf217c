use Rattle.std.proofs.Common.{◌≡◌, ◌∙◌, false, filter, ap, sym}
use Rattle.std.specs.List.{list_any}
use Rattle.token_sem.specs.Semaphore.{Loss, owned_by}
use Rattle.token_sem.specs.Entries.{Table, lists_of}
use Rattle.token_sem.proofs.Tabled.{none-lost, placed-filter}
use Rattle.token_sem.proofs.table.Entries.lose.Goals as goal

pub returns-then-not-owns-clause-grants : goal.returns-then-not-owns-clause-grants
returns-then-not-owns-clause-grants c =
    let t = c.args.self.now in
    let none : list_any (owned_by c.args.client) t.list ≡ false = cc in
    c.new.ensures.items ∙ sym (ap (λ (l : Loss). l.grants) (none-lost t.named c.args.client c.args.now t.list none))

pub returns-then-not-owns-clause-state : goal.returns-then-not-owns-clause-state
returns-then-not-owns-clause-state c =
    let t = c.args.self.now in
    let none : list_any (owned_by c.args.client) t.list ≡ false = cc in
    c.lose_waiters.ensures ∙ sym (ap (λ (l : Loss). record t { list = l.entries }) (none-lost t.named c.args.client c.args.now t.list none))

pub lose_owners-requires-clause-placed : goal.lose_owners-requires-clause-placed
lose_owners-requires-clause-placed c =
    let i = c.self.inside in
    let owners : c.deref-2.result.now ≡ filter (owned_by c.args.client) i.list.items = c.deref-2.ensures.value ∙ c.in_ok-owners.ensures ∙ ap (filter (owned_by c.args.client)) c.deref.ensures.value in
    let named : c.lose_waiters-2.new.self.named ≡ i.named = ap (λ (t : Table). t.named) c.lose_waiters-2.ensures ∙ sym (ap (λ (t : Table). t.named) c.self.view_is) in
    rw (owners, named) (placed-filter (lists_of i.named) (owned_by c.args.client) i.list.items c.self.invariant.placed)
