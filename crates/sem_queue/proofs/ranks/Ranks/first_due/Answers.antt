use Rattle.std.proofs.Common.{◌≡◌, ℕ, List, length, get_or, slice_get, ap, sym, ◌∙◌, arith}
use Rattle.std.proofs.lemmas.List.{length-map, get_or-map}
use Rattle.sem_queue.specs.Rows.{due_of}
use Rattle.sem_queue.specs.Marks.{no_row, rows_at, row_at}
use Rattle.sem_queue.proofs.Dues.{none-due, first-deadline, first-none, first-some}
use Rattle.sem_queue.proofs.ranks.Ranks.first_due.Goals as goal

pub returns-in-None : goal.returns-in-None
returns-in-None c =
    let i = c.self.inside in
    let is = c.self.invariant in
    let empty : length i.by_deadline.items ≡ 0 = first-none i.by_deadline.items (c.in-None.ensures.value ∙ ap (λ (l : List ℕ). slice_get l 0) c.as_slice.ensures.value) in
    rw (← c.self.view_is) (sym (none-due (rows_at i.slots i.by_number.items) (rows_at i.slots i.by_deadline.items) is.due is.deadlines.rises (omega (arith, empty, length-map i.by_deadline.items (row_at i.slots)))))

pub returns-in-Some : goal.returns-in-Some
returns-in-Some c =
    let i = c.self.inside in
    let is = c.self.invariant in
    let first = first-some i.by_deadline.items c.in-Some.key.now (c.in-Some.ensures.value ∙ ap (λ (l : List ℕ). slice_get l 0) c.as_slice.ensures.value) in
    let row : get_or (rows_at i.slots i.by_deadline.items) 0 no_row ≡ c.row_under.result =
    get_or-map (row_at i.slots) i.by_deadline.items 0 0 no_row first.0 ∙ ap (row_at i.slots) first.1 ∙ sym c.row_under.ensures in
    rw (← c.self.view_is) (
    c.due_of.ensures ∙ ap due_of (sym row)
    ∙ first-deadline (rows_at i.slots i.by_number.items) (rows_at i.slots i.by_deadline.items) is.due is.deadlines.rises (omega (arith, first.0, length-map i.by_deadline.items (row_at i.slots))))
