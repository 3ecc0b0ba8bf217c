use Rattle.std.proofs.Common.{◌≡◌, ◌∙◌, Some, List, option_map, position, get_or, sym, ap}
use Rattle.attach_sem.specs.Table.{is_of}
use Rattle.attach_sem.specs.declared.table.Pair.{Pair}
use Rattle.attach_sem.proofs.Going.{none-goes, one-goes}
use Rattle.attach_sem.proofs.table.Attached.get.Goals as goal

pub place_of-requires : goal.place_of-requires
place_of-requires c = rw c.deref.ensures.value c.self.invariant.1

pub returns-in-None-clause-request : goal.returns-in-None-clause-request
returns-in-None-clause-request c =
    let there = c.in-None.ensures ∙ ap (position (is_of c.args.key.now c.args.entry)) c.deref.ensures.value in
    let none = none-goes c.args.key.now c.args.entry c.self.inside.pairs.items c.self.invariant.1 there in
    rw (← c.self.view_is) (sym (ap (option_map (λ (p : Pair). p.waiting)) none.0))

pub returns-in-None-clause-always : goal.returns-in-None-clause-always
returns-in-None-clause-always c = rw (← c.self.view_is) c.self.invariant.1

pub returns-in-Some-clause-request : goal.returns-in-Some-clause-request
returns-in-Some-clause-request c =
    let i = c.self.inside in
    let there = c.in-Some.ensures ∙ ap (position (is_of c.args.key.now c.args.entry)) c.deref.ensures.value in
    let one = one-goes c.args.key.now c.args.entry i.pairs.items c.self.invariant.1 c.in-Some.place c.index.result.now there in
    let same : c.index.result.now ≡ get_or i.pairs.items c.in-Some.place c.index.result.now = c.index.ensures in
    rw (← c.self.view_is) (ap (λ (p : Pair). Some p.waiting) same ∙ sym (ap (option_map (λ (p : Pair). p.waiting)) one.3))

pub returns-in-Some-clause-always : goal.returns-in-Some-clause-always
returns-in-Some-clause-always c = rw (← c.self.view_is) c.self.invariant.1
