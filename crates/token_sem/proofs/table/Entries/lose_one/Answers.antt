use Rattle.std.proofs.Common.{◌≡◌, ◌∙◌, Option, Some, List, ap, sym}
use Rattle.token_sem.specs.declared.entry.SemEntry.{SemEntry}
use Rattle.token_sem.specs.Semaphore.{owner_of}
use Rattle.token_sem.specs.Entries.{Table, lists_of}
use Rattle.token_sem.proofs.Tabled.{owner-is, placed-among}
use Rattle.token_sem.proofs.table.Entries.lose_one.Goals as goal

pub leave-requires-clause-placed : goal.leave-requires-clause-placed
leave-requires-clause-placed c =
    let i = c.self.inside in
    let there : owner_of c.args.client i.list.items ≡ Some c.in-Some.owner = sym (c.in-Some.ensures ∙ ap (owner_of c.args.client) c.deref.ensures.value) in
    let among = owner-is c.args.client i.list.items c.in-Some.owner there in
    let named : c.lose_waiters.new.self.named ≡ i.named = ap (λ (t : Table). t.named) c.lose_waiters.ensures ∙ sym (ap (λ (t : Table). t.named) c.self.view_is) in
    rw named (placed-among (lists_of i.named) i.list.items c.in-Some.owner c.self.invariant.placed among.0)
