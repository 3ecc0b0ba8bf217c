use Rattle.std.proofs.Common.{◌≡◌, Option, Some, IfSome, subst, ap, sym, ◌∙◌}
use Rattle.sem_queue.specs.Rows as q
use Rattle.token_sem.specs.declared.entry.Deadline.{Deadline}
use Rattle.token_sem.specs.Semaphore.{deadline_at}
use Rattle.token_sem.proofs.Ranked.{due-none, due-some}
use Rattle.token_sem.proofs.Serving.{first_stands_in}
use Rattle.token_sem.proofs.table.Entries.deadline.Goals as goal

pub returns-in-None-clause-least : goal.returns-in-None-clause-least
returns-in-None-clause-least c =
    rw (← c.self.view_is) (due-none c.self.inside.list.items (c.in-None.ensures ∙ ap q.first_due c.self.invariant.rows))

pub returns-in-Some-clause-least : goal.returns-in-Some-clause-least
returns-in-Some-clause-least c =
    rw (← c.self.view_is) (due-some c.self.inside.list.items c.in-Some.due (c.in-Some.ensures ∙ ap q.first_due c.self.invariant.rows))

pub returns-in-Some-clause-stands : goal.returns-in-Some-clause-stands
returns-in-Some-clause-stands c =
    let es = c.self.inside.list.items in
    let is = due-some es c.in-Some.due (c.in-Some.ensures ∙ ap q.first_due c.self.invariant.rows) in
    rw (← c.self.view_is) (subst (λ (o : Option Deadline). IfSome o (λ d. deadline_at d.number es ≡ Some d.at)) (sym is) (first_stands_in c.self.invariant.rises.0 es c.self.invariant.rises.1))
