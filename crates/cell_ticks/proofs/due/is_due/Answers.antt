use Rattle.std.proofs.Common.{◌∙◌, sym}
use Rattle.cell_ticks.proofs.Coded.{due_else, due_then}
use Rattle.cell_ticks.proofs.due.is_due.Goals as goal

pub returns-then-is_due : goal.returns-then-is_due
returns-then-is_due c = due_then c.args.until c.args.semaphores.now c.args.conditions.now (sym c.is_due.ensures ∙ c.if-is_due.true)

pub returns : goal.returns
returns c = c.is_due-2.ensures ∙ due_else c.args.until c.args.semaphores.now c.args.conditions.now (sym c.is_due.ensures ∙ c.if-is_due.false)
