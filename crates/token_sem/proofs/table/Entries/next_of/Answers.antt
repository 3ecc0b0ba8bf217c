use Rattle.std.proofs.Common.{◌<◌, Some, None, refl, sym, subst}
use Rattle.token_sem.specs.Entries.{Table, lists_of}
use Rattle.token_sem.proofs.Tabled.{next-is}
use Rattle.token_sem.proofs.table.Entries.next_of.Goals as goal

pub returns-in-None-clause-next : goal.returns-in-None-clause-next
returns-in-None-clause-next c =
    let i = c.self.inside in
    let lt : c.args.token < lists_of i.named = subst (λ (t : Table). c.args.token < lists_of t.named) (sym c.self.view_is) c.requires in
    rw (← c.self.view_is) (sym ((next-is i.named c.args.token i.list.items i.ranks None c.self.invariant lt c.in-None.ensures).1 refl))

pub returns-in-Some-clause-next : goal.returns-in-Some-clause-next
returns-in-Some-clause-next c =
    let i = c.self.inside in
    let lt : c.args.token < lists_of i.named = subst (λ (t : Table). c.args.token < lists_of t.named) (sym c.self.view_is) c.requires in
    rw (← c.self.view_is) (cc (c.numbered.ensures.entry, (next-is i.named c.args.token i.list.items i.ranks (Some c.in-Some.number) c.self.invariant lt c.in-Some.ensures).0 c.in-Some.number refl))
