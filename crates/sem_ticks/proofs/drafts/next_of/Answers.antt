use Rattle.std.proofs.Common.{◌∙◌, None, Some, sym}
use Rattle.sem_ticks.specs.Drafts.{next_named}
use Rattle.sem_ticks.proofs.Drafting.{same_until}
use Rattle.sem_ticks.proofs.NextOf.{in_time, out_of_time}
use Rattle.sem_ticks.proofs.drafts.next_of.Goals as goal

pub returns-in-None-clause-least : goal.returns-in-None-clause-least
returns-in-None-clause-least c = same_until c.args.until c.args.semaphores.now c.args.drafts.now None c.len-rows.ensures.distinct c.requires c.in-None.ensures.least

pub returns-then-next-until-clause-least : goal.returns-then-next-until-clause-least
returns-then-next-until-clause-least c =
    let next = c.in-Some.next in
    sym (in_time c.args.until next.due.at (next_named next) c.if-next-until.true)
    ∙ same_until c.args.until c.args.semaphores.now c.args.drafts.now (Some next) c.len-rows.ensures.distinct c.requires c.in-Some.ensures.least

pub returns-else-next-until-clause-least : goal.returns-else-next-until-clause-least
returns-else-next-until-clause-least c =
    let next = c.in-Some.next in
    sym (out_of_time c.args.until next.due.at (next_named next) c.if-next-until.false)
    ∙ same_until c.args.until c.args.semaphores.now c.args.drafts.now (Some next) c.len-rows.ensures.distinct c.requires c.in-Some.ensures.least
