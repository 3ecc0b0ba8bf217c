use Rattle.attach_sem.specs.Table.{is_of}
use Rattle.attach_sem.proofs.Going.{position-at}
use Rattle.attach_sem.proofs.table.place_of.Goals as goal

pub returns-in-Some : goal.returns-in-Some
returns-in-Some c =
    position-at (is_of c.args.key.now c.args.entry) c.args.pairs.now c.in-Some.place (c.requires c.args.key.now c.args.entry) c.in-Some.ensures.0 c.in-Some.ensures.1
