use Rattle.std.proofs.Common.{◌∙◌, sym}
use Rattle.mms_time.specs.Deadlines.{next_due}
use Rattle.mms_time.proofs.Unowned.{on_err}
use Rattle.sem_ticks.proofs.Made.{is_none, is_there}
use Rattle.sem_ticks.proofs.ticks.tick_dated.Goals as goal

pub returns-then-not-is_due-clause-none : goal.returns-then-not-is_due-clause-none
returns-then-not-is_due-clause-none c = is_none (next_due c.args.until c.args.semaphores.now) (sym c.is_due.ensures ∙ c.if-not-is_due.true)

pub returns-in_err-due-clause-wants : goal.returns-in_err-due-clause-wants
returns-in_err-due-clause-wants c = on_err c.from_residual.result (is_there (next_due c.args.until c.args.semaphores.now) (sym c.is_due.ensures ∙ c.if-not-is_due.false))

pub returns-in_err-ticked-clause-wants : goal.returns-in_err-ticked-clause-wants
returns-in_err-ticked-clause-wants c =
    on_err c.from_residual-in_err-ticked.result (is_there (next_due c.args.until c.args.semaphores.now) (sym c.is_due.ensures ∙ c.if-not-is_due.false))

pub returns-in_err-ticked_in_copy-in-None-clause-wants : goal.returns-in_err-ticked_in_copy-in-None-clause-wants
returns-in_err-ticked_in_copy-in-None-clause-wants c =
    on_err c.from_residual-in_err-ticked_in_copy-in-None.result (is_there (next_due c.args.until c.args.semaphores.now) (sym c.is_due.ensures ∙ c.if-not-is_due.false))

pub returns-in-Some-clause-some : goal.returns-in-Some-clause-some
returns-in-Some-clause-some c = is_there (next_due c.args.until c.args.semaphores.now) (sym c.is_due.ensures ∙ c.if-not-is_due.false)

pub returns-in_ok-ticked_in_copy-in-None-clause-some : goal.returns-in_ok-ticked_in_copy-in-None-clause-some
returns-in_ok-ticked_in_copy-in-None-clause-some c = is_there (next_due c.args.until c.args.semaphores.now) (sym c.is_due.ensures ∙ c.if-not-is_due.false)
