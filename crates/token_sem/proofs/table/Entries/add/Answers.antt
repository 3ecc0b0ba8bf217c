use Rattle.std.proofs.Common.{◌≡◌, ◌<◌, ◌-◌, true, false, sym, subst, arith}
use Rattle.token_sem.specs.Semaphore.{Rises}
use Rattle.token_sem.specs.Entries.{Table, is_ranked, row_of, lists_of}
use Rattle.sem_queue.specs.declared.row.Row.{Row}
use Rattle.sem_queue.specs.Rows.{with_row, is_placed}
use Rattle.token_sem.proofs.Ranked.{absent-row}
use Rattle.token_sem.proofs.Tabled.{added, added-unranked, roomy}
use Rattle.token_sem.proofs.table.Entries.add.Goals as goal

pub invariant_of-self-then-not-is_ranked : goal.invariant_of-self-then-not-is_ranked
invariant_of-self-then-not-is_ranked c =
    let i = c.self.inside in
    let above : Rises 0 i.list.items (c.args.entry.number - 1) = subst (λ (t : Table). Rises 0 t.list (c.args.entry.number - 1)) (sym c.self.view_is) c.requires.above in
    let t : is_placed (lists_of i.named) c.args.entry.token ≡ true = subst (λ (t : Table). is_placed (lists_of t.named) c.args.entry.token ≡ true) (sym c.self.view_is) c.requires.placed in
    let unranked : is_ranked c.args.entry ≡ false = cc in
    rw (c.in_ok-push.ensures.ok) (added-unranked i.named i.list.items c.args.entry i.ranks c.self.invariant c.requires.some above t unranked)

pub insert-requires-clause-absent : goal.insert-requires-clause-absent
insert-requires-clause-absent c =
    let i = c.self.inside in
    let is = roomy i.named i.list.items i.ranks c.reserve.new.self c.self.invariant c.in-Ok.ensures.rest in
    let above : Rises 0 i.list.items (c.args.entry.number - 1) = subst (λ (t : Table). Rises 0 t.list (c.args.entry.number - 1)) (sym c.self.view_is) c.requires.above in
    let lt : c.args.entry.number - 1 < c.args.entry.number = omega (arith, c.requires.some) in
    rw (c.row_of.ensures, is.rows) (absent-row 0 (c.args.entry.number - 1) c.args.entry.number i.list.items above lt)

pub invariant_of-self-2 : goal.invariant_of-self-2
invariant_of-self-2 c =
    let i = c.self.inside in
    let above : Rises 0 i.list.items (c.args.entry.number - 1) = subst (λ (t : Table). Rises 0 t.list (c.args.entry.number - 1)) (sym c.self.view_is) c.requires.above in
    let t : is_placed (lists_of i.named) c.args.entry.token ≡ true = subst (λ (t : Table). is_placed (lists_of t.named) c.args.entry.token ≡ true) (sym c.self.view_is) c.requires.placed in
    let ranked : is_ranked c.args.entry ≡ true = cc in
    let come : c.insert.new.self ≡ record c.reserve.new.self { rows = with_row (row_of c.args.entry) c.reserve.new.self.rows; spare = c.reserve.new.self.spare - 1 } =
    subst (λ (r : Row). c.insert.new.self ≡ record c.reserve.new.self { rows = with_row r c.reserve.new.self.rows; spare = c.reserve.new.self.spare - 1 }) c.row_of.ensures c.insert.ensures in
    rw (c.in_ok-push-2.ensures.ok) (added i.named i.list.items c.args.entry i.ranks c.reserve.new.self c.insert.new.self c.self.invariant c.requires.some above t ranked c.in-Ok.ensures.rest come)
