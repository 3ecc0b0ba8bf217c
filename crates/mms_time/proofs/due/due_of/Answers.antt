use Rattle.mms_time.proofs.Soonest.{named_first}
use Rattle.mms_time.proofs.due.due_of.Goals as goal

pub returns-in-None-clause-least : goal.returns-in-None-clause-least
returns-in-None-clause-least c = named_first c.args.key.now c.args.row.now _ c.in-None.ensures.least

pub returns-in-Some-clause-least : goal.returns-in-Some-clause-least
returns-in-Some-clause-least c = named_first c.args.key.now c.args.row.now _ c.in-Some.ensures.least
