use Rattle.std.proofs.Common.{◌∙◌, sym, true, false}
use Rattle.step_needs.proofs.TimeNeeds.{due_set, lossy_set}
use Rattle.step_needs.proofs.time.time_asks.Goals as goal

pub returns-then-is_lossy : goal.returns-then-is_lossy
returns-then-is_lossy c n = lossy_set n c.args.is_due c.args.happened.now c.of.result (sym c.is_lossy.ensures ∙ c.if-is_lossy.true) c.of.ensures

pub returns-then-is_due : goal.returns-then-is_due
returns-then-is_due c n =
    due_set n c.args.is_due true c.args.happened.now c.of-then-is_due.result (sym c.is_lossy.ensures ∙ c.if-is_lossy.false) c.if-is_due.true c.of-then-is_due.ensures

pub returns-else-is_due : goal.returns-else-is_due
returns-else-is_due c n = due_set n c.args.is_due false c.args.happened.now c.new.result (sym c.is_lossy.ensures ∙ c.if-is_lossy.false) c.if-is_due.false c.new.ensures.set
