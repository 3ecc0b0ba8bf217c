use Rattle.std.proofs.Common.{ap, ◌∙◌}
use Rattle.std.specs.List.{list_any}
use Rattle.sem_queue.specs.declared.row.Row.{Row}
use Rattle.token_sem.proofs.Ranked.{any-waits}
use Rattle.token_sem.proofs.table.Entries.waits.Goals as goal

pub returns : goal.returns
returns c =
    let i = c.self.inside in
    rw (← c.self.view_is) (c.waits.ensures ∙ ap (list_any (λ (r : Row). r.queued)) c.self.invariant.rows ∙ any-waits i.list.items)
