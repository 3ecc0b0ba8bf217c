use Rattle.std.proofs.Common.{◌≡◌, ◌<◌, ◌-◌, ◌∙◌, Bool, true, false, List, Some, length, slice_get, get_or, refl, sym, ap, subst}
use Rattle.std.proofs.lemmas.List.{get_or_default}
use Rattle.token_sem.specs.declared.entry.SemEntry.{SemEntry}
use Rattle.token_sem.specs.Semaphore.{numbered}
use Rattle.token_sem.specs.Entries.{Table, is_ranked, row_of, lists_of}
use Rattle.sem_queue.specs.declared.row.Row.{Row}
use Rattle.sem_queue.specs.Rows.{with_row, is_placed}
use Rattle.token_sem.proofs.Positions.{no_entry, found-at, put-at, put-none}
use Rattle.token_sem.proofs.Tabled.{put-neither, put-absent, put-room, put-ranked, put-unranked}
use Rattle.token_sem.proofs.table.Entries.put.Goals as goal

pub returns-in_default : goal.returns-in_default
returns-in_default c = ap (λ (l : List SemEntry). record c.args.self.now { list = l }) (sym (put-none c.args.entry.now c.args.self.now.list (c.in_default.ensures.absent refl)))

pub insert-requires-clause-room : goal.insert-requires-clause-room
insert-requires-clause-room c =
    let i = c.self.inside in
    let es = i.list.items in
    let new = c.args.entry.now in
    let lt : c.in-Some.place < length es = subst (λ (t : Table). c.in-Some.place < length t.list) (sym c.self.view_is) c.in-Some.ensures.within in
    let there : slice_get es c.in-Some.place ≡ numbered new.number es = subst (λ (t : Table). slice_get t.list c.in-Some.place ≡ numbered new.number t.list) (sym c.self.view_is) c.in-Some.ensures.there in
    let found = found-at new.number c.self.invariant.rises.0 es c.in-Some.place c.self.invariant.rises.1 lt there in
    let o = get_or es c.in-Some.place no_entry in
    let t : is_placed (lists_of i.named) new.token ≡ true = subst (λ (t : Table). is_placed (lists_of t.named) new.token ≡ true) (sym c.self.view_is) c.requires.placed in
    let here : numbered new.number c.args.self.now.list ≡ Some o = subst (λ (t : Table). numbered new.number t.list ≡ Some o) c.self.view_is found.0 in
    let ranked : is_ranked new ≡ true = cc in
    put-room i.named es new o i.ranks c.remove-row.new.self c.self.invariant found.1 found.2 t c.remove-row.ensures.state (c.requires.ranked o here ranked)

pub insert-requires-clause-absent : goal.insert-requires-clause-absent
insert-requires-clause-absent c =
    let i = c.self.inside in
    let es = i.list.items in
    let new = c.args.entry.now in
    let lt : c.in-Some.place < length es = subst (λ (t : Table). c.in-Some.place < length t.list) (sym c.self.view_is) c.in-Some.ensures.within in
    let there : slice_get es c.in-Some.place ≡ numbered new.number es = subst (λ (t : Table). slice_get t.list c.in-Some.place ≡ numbered new.number t.list) (sym c.self.view_is) c.in-Some.ensures.there in
    let found = found-at new.number c.self.invariant.rises.0 es c.in-Some.place c.self.invariant.rises.1 lt there in
    let o = get_or es c.in-Some.place no_entry in
    let t : is_placed (lists_of i.named) new.token ≡ true = subst (λ (t : Table). is_placed (lists_of t.named) new.token ≡ true) (sym c.self.view_is) c.requires.placed in
    rw c.row_of.ensures (put-absent i.named es new o i.ranks c.remove-row.new.self c.self.invariant found.1 found.2 t c.remove-row.ensures.state)

pub invariant_of-self-then-is_ranked : goal.invariant_of-self-then-is_ranked
invariant_of-self-then-is_ranked c =
    let i = c.self.inside in
    let es = i.list.items in
    let new = c.args.entry.now in
    let lt : c.in-Some.place < length es = subst (λ (t : Table). c.in-Some.place < length t.list) (sym c.self.view_is) c.in-Some.ensures.within in
    let there : slice_get es c.in-Some.place ≡ numbered new.number es = subst (λ (t : Table). slice_get t.list c.in-Some.place ≡ numbered new.number t.list) (sym c.self.view_is) c.in-Some.ensures.there in
    let found = found-at new.number c.self.invariant.rises.0 es c.in-Some.place c.self.invariant.rises.1 lt there in
    let o = get_or es c.in-Some.place no_entry in
    let t : is_placed (lists_of i.named) new.token ≡ true = subst (λ (t : Table). is_placed (lists_of t.named) new.token ≡ true) (sym c.self.view_is) c.requires.placed in
    let ranked : is_ranked new ≡ true = cc in
    let k = c.remove-row.new.self in
    let come : c.insert.new.self ≡ record k { rows = with_row (row_of new) k.rows; spare = k.spare - 1 } =
    subst (λ (r : Row). c.insert.new.self ≡ record k { rows = with_row r k.rows; spare = k.spare - 1 }) c.row_of.ensures c.insert.ensures in
    rw (put-at 0 c.self.invariant.rises.0 es c.in-Some.place new no_entry c.self.invariant.rises.1 lt found.2)
    (put-ranked i.named es new o i.ranks k c.self.invariant found.1 found.2 t c.remove-row.ensures.state c.insert.new.self ranked come)

pub invariant_of-self-else-is_ranked : goal.invariant_of-self-else-is_ranked
invariant_of-self-else-is_ranked c =
    let i = c.self.inside in
    let es = i.list.items in
    let new = c.args.entry.now in
    let lt : c.in-Some.place < length es = subst (λ (t : Table). c.in-Some.place < length t.list) (sym c.self.view_is) c.in-Some.ensures.within in
    let there : slice_get es c.in-Some.place ≡ numbered new.number es = subst (λ (t : Table). slice_get t.list c.in-Some.place ≡ numbered new.number t.list) (sym c.self.view_is) c.in-Some.ensures.there in
    let found = found-at new.number c.self.invariant.rises.0 es c.in-Some.place c.self.invariant.rises.1 lt there in
    let o = get_or es c.in-Some.place no_entry in
    let t : is_placed (lists_of i.named) new.token ≡ true = subst (λ (t : Table). is_placed (lists_of t.named) new.token ≡ true) (sym c.self.view_is) c.requires.placed in
    let unranked : is_ranked new ≡ false = cc in
    rw (put-at 0 c.self.invariant.rises.0 es c.in-Some.place new no_entry c.self.invariant.rises.1 lt found.2)
    (put-unranked i.named es new o i.ranks c.remove-row.new.self c.self.invariant found.1 found.2 t c.remove-row.ensures.state unranked)

pub returns-then-is_ranked : goal.returns-then-is_ranked
returns-then-is_ranked c =
    let i = c.self.inside in
    let es = i.list.items in
    let new = c.args.entry.now in
    let lt : c.in-Some.place < length es = subst (λ (t : Table). c.in-Some.place < length t.list) (sym c.self.view_is) c.in-Some.ensures.within in
    let there : slice_get es c.in-Some.place ≡ numbered new.number es = subst (λ (t : Table). slice_get t.list c.in-Some.place ≡ numbered new.number t.list) (sym c.self.view_is) c.in-Some.ensures.there in
    let found = found-at new.number c.self.invariant.rises.0 es c.in-Some.place c.self.invariant.rises.1 lt there in
    rw (← c.self.view_is) (ap (λ (l : List SemEntry). record { list = l; named = i.named }) (put-at 0 c.self.invariant.rises.0 es c.in-Some.place new no_entry c.self.invariant.rises.1 lt found.2))

pub returns-else-is_ranked : goal.returns-else-is_ranked
returns-else-is_ranked c =
    let i = c.self.inside in
    let es = i.list.items in
    let new = c.args.entry.now in
    let lt : c.in-Some.place < length es = subst (λ (t : Table). c.in-Some.place < length t.list) (sym c.self.view_is) c.in-Some.ensures.within in
    let there : slice_get es c.in-Some.place ≡ numbered new.number es = subst (λ (t : Table). slice_get t.list c.in-Some.place ≡ numbered new.number t.list) (sym c.self.view_is) c.in-Some.ensures.there in
    let found = found-at new.number c.self.invariant.rises.0 es c.in-Some.place c.self.invariant.rises.1 lt there in
    rw (← c.self.view_is) (ap (λ (l : List SemEntry). record { list = l; named = i.named }) (put-at 0 c.self.invariant.rises.0 es c.in-Some.place new no_entry c.self.invariant.rises.1 lt found.2))

pub invariant_of-self : goal.invariant_of-self
invariant_of-self c =
    let i = c.self.inside in
    let es = i.list.items in
    let new = c.args.entry.now in
    let lt : c.in-Some.place < length es = subst (λ (t : Table). c.in-Some.place < length t.list) (sym c.self.view_is) c.in-Some.ensures.within in
    let there : slice_get es c.in-Some.place ≡ numbered new.number es = subst (λ (t : Table). slice_get t.list c.in-Some.place ≡ numbered new.number t.list) (sym c.self.view_is) c.in-Some.ensures.there in
    let found = found-at new.number c.self.invariant.rises.0 es c.in-Some.place c.self.invariant.rises.1 lt there in
    let o = get_or es c.in-Some.place no_entry in
    let t : is_placed (lists_of i.named) new.token ≡ true = subst (λ (t : Table). is_placed (lists_of t.named) new.token ≡ true) (sym c.self.view_is) c.requires.placed in
    let here : numbered new.number c.args.self.now.list ≡ Some o = subst (λ (t : Table). numbered new.number t.list ≡ Some o) c.self.view_is found.0 in
    let at : c.index.result.now ≡ o = c.index.ensures ∙ get_or_default es c.in-Some.place _ _ lt in
    let was : is_ranked o ≡ false = ap is_ranked (sym at) ∙ sym c.is_ranked-was_ranked.ensures ∙ c.if-not-was_ranked.true in
    let unranked : is_ranked new ≡ false = by_test (is_ranked new) (is_ranked o) was (c.requires.ranked o here) in
    rw (put-at 0 c.self.invariant.rises.0 es c.in-Some.place new no_entry c.self.invariant.rises.1 lt found.2)
    (put-neither i.named es new o i.ranks c.self.invariant found.1 found.2 t was unranked)
  where
    by_test : (b o : Bool) → o ≡ false → (b ≡ true → o ≡ true) → b ≡ false
    by_test true o f h = absurd (let g : o ≡ true = h refl in cc (f, g))
    by_test false o f h = refl

pub returns-then-not-was_ranked : goal.returns-then-not-was_ranked
returns-then-not-was_ranked c =
    let i = c.self.inside in
    let es = i.list.items in
    let new = c.args.entry.now in
    let lt : c.in-Some.place < length es = subst (λ (t : Table). c.in-Some.place < length t.list) (sym c.self.view_is) c.in-Some.ensures.within in
    let there : slice_get es c.in-Some.place ≡ numbered new.number es = subst (λ (t : Table). slice_get t.list c.in-Some.place ≡ numbered new.number t.list) (sym c.self.view_is) c.in-Some.ensures.there in
    let found = found-at new.number c.self.invariant.rises.0 es c.in-Some.place c.self.invariant.rises.1 lt there in
    rw (← c.self.view_is) (ap (λ (l : List SemEntry). record { list = l; named = i.named }) (put-at 0 c.self.invariant.rises.0 es c.in-Some.place new no_entry c.self.invariant.rises.1 lt found.2))
