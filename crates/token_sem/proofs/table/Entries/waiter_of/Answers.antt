use Rattle.std.proofs.Common.{◌≡◌, ◌∙◌, false, sym, ap}
use Rattle.std.specs.List.{list_any}
use Rattle.sem_queue.specs.declared.row.Row.{Row}
use Rattle.token_sem.specs.Semaphore.{is_queued}
use Rattle.token_sem.proofs.Ranked.{any-waits}
use Rattle.token_sem.proofs.Tabled.{nobody-waits}
use Rattle.token_sem.proofs.table.Entries.waiter_of.Goals as goal

pub returns-then-not-waits-clause-waiter : goal.returns-then-not-waits-clause-waiter
returns-then-not-waits-clause-waiter c =
    let i = c.self.inside in
    let none : c.waits.result ≡ false = c.if-not-waits.true in
    let nobody : list_any is_queued i.list.items ≡ false = sym (any-waits i.list.items) ∙ sym (ap (list_any (λ (r : Row). r.queued)) c.self.invariant.rows) ∙ sym c.waits.ensures ∙ none in
    rw (← c.self.view_is) (nobody-waits c.args.client i.list.items nobody)
