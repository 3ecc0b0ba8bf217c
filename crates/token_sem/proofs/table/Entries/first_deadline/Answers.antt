use Rattle.std.proofs.Common.{ap, ◌∙◌}
use Rattle.sem_queue.specs.Rows as q
use Rattle.token_sem.proofs.Ranked.{first-deadline}
use Rattle.token_sem.proofs.table.Entries.first_deadline.Goals as goal

pub returns : goal.returns
returns c = rw (← c.self.view_is) (c.first_deadline.ensures ∙ ap q.first_deadline c.self.invariant.rows ∙ first-deadline c.self.inside.list.items)
