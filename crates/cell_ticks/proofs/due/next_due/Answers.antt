use Rattle.std.proofs.Common.{◌∙◌, ap, Option, option_map}
use Rattle.mms_types.specs.declared.key.Key.{Key}
use Rattle.mms_types.specs.declared.moment.Moment.{Moment}
use Rattle.mms_time.specs.Deadlines as sem
use Rattle.mms_time.specs.Deadlines.{NamedDeadline, due_meant, until_only}
use Rattle.cell_ticks.specs.Coded.{sooner_if}
use Rattle.cell_ticks.specs.Deadlines.{evaluation_due}
use Rattle.cell_ticks.proofs.Coded.{next_is}
use Rattle.cell_ticks.proofs.due.next_due.Goals as goal

pub returns : goal.returns
returns c =
    let until = c.args.until in
    let rows = c.args.semaphores.now in
    c.sooner_of.ensures
    ∙ ap (λ (o : Option NamedDeadline). sooner_if o (option_map due_meant c.evaluation_until.result)) c.next_due-first.ensures.least
    ∙ ap (sooner_if (sem.next_due until rows))
    (c.evaluation_until.ensures ∙ ap (λ (o : Option (Moment × Key)). until_only until (option_map evaluation_due o)) c.next_evaluation.ensures.least)
    ∙ next_is until rows c.args.conditions.now
