use Rattle.sem_queue.specs.Marks.{rows_at}
use Rattle.sem_queue.proofs.Moves.{distinct}
use Rattle.sem_queue.proofs.ranks.Ranks.tokens.Goals as goal

pub returns-clause-always : goal.returns-clause-always
returns-clause-always c =
    let i = c.self.inside in
    rw (← c.self.view_is) (distinct (rows_at i.slots i.by_number.items) c.self.invariant.numbers.rises)
