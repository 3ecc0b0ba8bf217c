use Rattle.std.proofs.Common.{◌≡◌, ℕ, ◌==◌, ◌&&◌, Bool, not, true, false, refl, ap, sym, ◌∙◌, count_by, vec_len, arith}
use Rattle.std.proofs.lemmas.List.{length-map}
use Rattle.sem_queue.specs.declared.row.Row.{Row}
use Rattle.sem_queue.specs.Marks.{rows_at, row_at}
use Rattle.sem_queue.proofs.Lists.{any-counted, count-all, count-agree}
use Rattle.sem_queue.proofs.ranks.Ranks.waits.Goals as goal

pub returns : goal.returns
returns c =
    let i = c.self.inside in
    let is = c.self.invariant in
    let rows = rows_at i.slots i.by_number.items in
    let ranked = rows_at i.slots i.by_rank.items in
    let whole = count-all ranked in
    let long = length-map i.by_rank.items (row_at i.slots) in
    let chosen : count_by (λ (r : Row). true) ranked ≡ count_by (λ (r : Row). r.queued) rows =
    is.queued (λ (r : Row). true) ∙ count-agree _ _ (λ (r : Row). both r.queued) rows in
    let count : vec_len i.by_rank ≡ count_by (λ (r : Row). r.queued) rows = omega (arith, whole, long, chosen, i.by_rank.ok.0) in
    rw (← c.self.view_is, c.is_empty.ensures) (ap (λ (n : ℕ). not (n == 0)) count ∙ sym (any-counted (λ (r : Row). r.queued) rows))
  where
    both : (b : Bool) → (b && true) ≡ b
    both true = refl
    both false = refl
