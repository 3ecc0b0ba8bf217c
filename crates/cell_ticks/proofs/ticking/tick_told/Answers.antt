use Rattle.std.proofs.Common.{◌∙◌, sym}
use Rattle.mms_time.proofs.Unowned.{on_err}
use Rattle.sem_ticks.proofs.Made.{is_none, is_there}
use Rattle.cell_ticks.specs.Deadlines.{next_due}
use Rattle.cell_ticks.proofs.ticking.tick_told.Goals as goal

pub returns-then-not-is_due-clause-none : goal.returns-then-not-is_due-clause-none
returns-then-not-is_due-clause-none g c = is_none (next_due c.args.until c.args.semaphores.now c.args.conditions.now) (sym c.is_due.ensures ∙ c.if-not-is_due.true)

pub returns-in_err-both_parts-clause-wants : goal.returns-in_err-both_parts-clause-wants
returns-in_err-both_parts-clause-wants g c =
    on_err c.from_residual.result (is_there (next_due c.args.until c.args.semaphores.now c.args.conditions.now) (sym c.is_due.ensures ∙ c.if-not-is_due.false))

pub returns-clause-some : goal.returns-clause-some
returns-clause-some g c = is_there (next_due c.args.until c.args.semaphores.now c.args.conditions.now) (sym c.is_due.ensures ∙ c.if-not-is_due.false)
