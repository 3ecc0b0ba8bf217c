use Rattle.std.proofs.Common.{◌≡◌, ◌∙◌, ◌+◌, ℕ, Some, List, option_map, position, get_or, sym, ap, ap₂, arith}
use Rattle.std.proofs.lemmas.List.{get_or_default}
use Rattle.attach_sem.specs.Table.{is_of}
use Rattle.attach_sem.specs.declared.table.Pair.{Pair}
use Rattle.attach_sem.proofs.Going.{none-goes, one-goes, still-distinct}
use Rattle.attach_sem.proofs.table.Attached.remove.Goals as goal

pub place_of-requires : goal.place_of-requires
place_of-requires c = rw c.deref.ensures.value c.self.invariant.1

pub returns-in_default-clause-told : goal.returns-in_default-clause-told
returns-in_default-clause-told c =
    let i = c.self.inside in
    let there = c.in_default.ensures ∙ ap (position (is_of c.args.key.now c.args.entry)) c.deref.ensures.value in
    let none = none-goes c.args.key.now c.args.entry i.pairs.items c.self.invariant.1 there in
    rw (← c.self.view_is) (sym (ap (option_map (λ (p : Pair). p.waiting)) none.0))

pub returns-in_default-clause-state : goal.returns-in_default-clause-state
returns-in_default-clause-state c =
    let i = c.self.inside in
    let there = c.in_default.ensures ∙ ap (position (is_of c.args.key.now c.args.entry)) c.deref.ensures.value in
    let none = none-goes c.args.key.now c.args.entry i.pairs.items c.self.invariant.1 there in
    let spare : i.spare ≡ i.spare + 0 = omega arith in
    rw (← c.self.view_is) (ap₂ (λ (l : List Pair) (n : ℕ). record { pairs = l; spare = n }) (sym none.1) (spare ∙ ap (λ n. i.spare + n) (sym none.2)))

pub invariant_of-self : goal.invariant_of-self
invariant_of-self c =
    let i = c.self.inside in
    let there = c.in-Some.ensures ∙ ap (position (is_of c.args.key.now c.args.entry)) c.deref.ensures.value in
    let one = one-goes c.args.key.now c.args.entry i.pairs.items c.self.invariant.1 c.in-Some.place c.remove-pair.result there in (
      omega (arith, c.remove-pair.ensures.len, c.remove-pair.ensures.capacity, c.self.invariant.0, one.0),
      rw (c.remove-pair.ensures.by_index.2, one.1) (still-distinct (is_of c.args.key.now c.args.entry) i.pairs.items c.self.invariant.1),
    )

pub returns-clause-told : goal.returns-clause-told
returns-clause-told c =
    let i = c.self.inside in
    let there = c.in-Some.ensures ∙ ap (position (is_of c.args.key.now c.args.entry)) c.deref.ensures.value in
    let one = one-goes c.args.key.now c.args.entry i.pairs.items c.self.invariant.1 c.in-Some.place c.remove-pair.result there in
    let same : c.remove-pair.result ≡ get_or i.pairs.items c.in-Some.place c.remove-pair.result = c.remove-pair.ensures.value ∙ get_or_default i.pairs.items c.in-Some.place _ _ one.0 in
    rw (← c.self.view_is) (ap (λ (p : Pair). Some p.waiting) same ∙ sym (ap (option_map (λ (p : Pair). p.waiting)) one.3))

pub returns-clause-state : goal.returns-clause-state
returns-clause-state c =
    let i = c.self.inside in
    let there = c.in-Some.ensures ∙ ap (position (is_of c.args.key.now c.args.entry)) c.deref.ensures.value in
    let one = one-goes c.args.key.now c.args.entry i.pairs.items c.self.invariant.1 c.in-Some.place c.remove-pair.result there in
    rw (← c.self.view_is) (ap₂ (λ (l : List Pair) (n : ℕ). record { pairs = l; spare = n }) (c.remove-pair.ensures.by_index.2 ∙ one.1) (ap (λ n. i.spare + n) (sym one.2)))
