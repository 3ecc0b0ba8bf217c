use Rattle.std.proofs.Common.{ℕ, sym, ap, ◌∙◌, arith}
use Rattle.std.specs.Prelude.{Option, None, Some}
use Rattle.sem_queue.specs.Marks.{rows_at}
use Rattle.sem_queue.proofs.Serving.{ends, own-served, any-served, own-next, any-next}
use Rattle.sem_queue.proofs.served.Served.next.Goals as goal

pub row_in-own-requires-clause-ends : goal.row_in-own-requires-clause-ends
row_in-own-requires-clause-ends c =
    let i = c.self.inside in
    ends i.tokens i.token i.slots.now i.by_rank.now i.begins.now _ i.own i.any c.self.invariant i.token (let small = c.self.invariant.small in omega arith)

pub row_in-any-requires-clause-ends : goal.row_in-any-requires-clause-ends
row_in-any-requires-clause-ends c =
    let i = c.self.inside in
    ends i.tokens i.token i.slots.now i.by_rank.now i.begins.now _ i.own i.any c.self.invariant i.tokens (omega arith)

pub invariant_of-self-then-before : goal.invariant_of-self-then-before
invariant_of-self-then-before c =
    let i = c.self.inside in
    own-served i.tokens i.token i.slots.now i.by_rank.now i.begins.now _ i.own i.any c.self.invariant c.in-Some.own (Some c.in-Some-any-2.any) c.in-Some.ensures.row c.in-Some-any-2.ensures.row (sym c.before-in-Some-any-2.ensures ∙ c.if-before.true)

pub invariant_of-self-else-before : goal.invariant_of-self-else-before
invariant_of-self-else-before c =
    let i = c.self.inside in
    any-served i.tokens i.token i.slots.now i.by_rank.now i.begins.now _ i.own i.any c.self.invariant c.in-Some-any-2.any (Some c.in-Some.own) c.in-Some-any-2.ensures.row c.in-Some.ensures.row (sym c.before-in-Some-any-2.ensures ∙ c.if-before.false)

pub returns-in-Some-any-clause-state : goal.returns-in-Some-any-clause-state
returns-in-Some-any-clause-state c =
    let i = c.self.inside in
    rw (← c.self.view_is) (ap (λ (n : Option ℕ). record { rows = rows_at i.slots.now i.by_number.now; token = i.token; next = n }) (any-next i.tokens i.token i.slots.now i.by_rank.now i.begins.now _ i.own i.any c.self.invariant c.in-Some-any.any None c.in-Some-any.ensures.row c.in-None.ensures.row tt))

pub returns-in-None-any-2-clause-state : goal.returns-in-None-any-2-clause-state
returns-in-None-any-2-clause-state c =
    let i = c.self.inside in
    rw (← c.self.view_is) (ap (λ (n : Option ℕ). record { rows = rows_at i.slots.now i.by_number.now; token = i.token; next = n }) (own-next i.tokens i.token i.slots.now i.by_rank.now i.begins.now _ i.own i.any c.self.invariant c.in-Some.own None c.in-Some.ensures.row c.in-None-any-2.ensures.row tt))

pub returns-then-before-clause-state : goal.returns-then-before-clause-state
returns-then-before-clause-state c =
    let i = c.self.inside in
    rw (← c.self.view_is) (ap (λ (n : Option ℕ). record { rows = rows_at i.slots.now i.by_number.now; token = i.token; next = n }) (own-next i.tokens i.token i.slots.now i.by_rank.now i.begins.now _ i.own i.any c.self.invariant c.in-Some.own (Some c.in-Some-any-2.any) c.in-Some.ensures.row c.in-Some-any-2.ensures.row (sym c.before-in-Some-any-2.ensures ∙ c.if-before.true)))

pub returns-else-before-clause-state : goal.returns-else-before-clause-state
returns-else-before-clause-state c =
    let i = c.self.inside in
    rw (← c.self.view_is) (ap (λ (n : Option ℕ). record { rows = rows_at i.slots.now i.by_number.now; token = i.token; next = n }) (any-next i.tokens i.token i.slots.now i.by_rank.now i.begins.now _ i.own i.any c.self.invariant c.in-Some-any-2.any (Some c.in-Some.own) c.in-Some-any-2.ensures.row c.in-Some.ensures.row (sym c.before-in-Some-any-2.ensures ∙ c.if-before.false)))
