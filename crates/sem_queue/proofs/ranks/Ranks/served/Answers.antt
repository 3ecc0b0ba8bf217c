use Rattle.std.proofs.Common.{◌≡◌, ℕ, ◌+◌, ◌<◌, ◌≤◌, List, refl, sym, ap, subst, ◌∙◌, count_by, arith}
use Rattle.std.specs.Prelude.{Option, slice_index}
use Rattle.sem_queue.specs.Rows.{Queue, least_number}
use Rattle.sem_queue.specs.Marks.{IsServing, rows_at, lists_below, row_from}
use Rattle.sem_queue.proofs.Kept.{begins-is, row_from-is}
use Rattle.sem_queue.proofs.Moves.{distinct}
use Rattle.sem_queue.proofs.Queued.{least-is}
use Rattle.sem_queue.proofs.Serving.{serving}
use Rattle.sem_queue.proofs.ranks.Ranks.served.Goals as goal

pub invariant_of-result : goal.invariant_of-result
invariant_of-result c =
    let i = c.self.inside in
    let tokens : i.tokens ≡ c.args.self.now.tokens = ap (λ (q : Queue). q.tokens) c.self.view_is in
    let small : c.args.token < i.tokens = omega (arith, c.requires) in
    serving i.tokens i.spare i.slots i.by_number i.by_rank i.by_deadline i.begins.items c.self.invariant c.args.token small
    c.as_slice.result.now c.as_slice-2.result.now c.as_slice-begins.result.now c.begin_of.result c.begin_of-2.result
    c.as_slice.ensures.value c.as_slice-2.ensures.value c.as_slice-begins.ensures.value c.begin_of.ensures c.begin_of-2.ensures

pub returns : goal.returns
returns c =
    let i = c.self.inside in
    let is = c.self.invariant in
    let rows = rows_at i.slots i.by_rank.items in
    let tokens : i.tokens ≡ c.args.self.now.tokens = ap (λ (q : Queue). q.tokens) c.self.view_is in
    let small : c.args.token < i.tokens = omega (arith, c.requires) in
    let begins = begins-is i.tokens i.spare i.slots i.by_number i.by_rank i.by_deadline i.begins.items is c.as_slice-begins.result.now c.as_slice-begins.ensures.value in
    let own : Option _ = row_from i.slots c.as_slice-2.result.now (slice_index c.as_slice-begins.result.now (c.args.token + 1)) c.begin_of.result in
    let any = row_from i.slots c.as_slice-2.result.now (slice_index c.as_slice-begins.result.now (i.tokens + 1)) c.begin_of-2.result in
    let first = least-is i.tokens (rows_at i.slots i.by_number.items) i.slots i.by_rank.items is.queued is.ranks.rises c.args.token small is.placed own any
    (row_from-is i.slots i.by_rank.items _ _ _ _ _ c.as_slice-2.ensures.value (begins (c.args.token + 1) (omega arith)) (c.begin_of.ensures ∙ begins c.args.token (omega arith)))
    (row_from-is i.slots i.by_rank.items _ _ _ _ _ c.as_slice-2.ensures.value (begins (i.tokens + 1) (omega arith)) (c.begin_of-2.ensures ∙ begins i.tokens (omega arith))) in
    rw (← c.self.view_is) (
    ap (λ (n : Option ℕ). record { rows = rows_at i.slots c.as_slice.result.now; token = c.args.token; next = n }) first
    ∙ ap (λ (l : List ℕ). record { rows = rows_at i.slots l; token = c.args.token; next = least_number c.args.token (rows_at i.slots i.by_number.items) }) c.as_slice.ensures.value)
