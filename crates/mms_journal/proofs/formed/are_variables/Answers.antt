use Rattle.mms_journal.specs.Formed.{IsVariable}
use Rattle.mms_journal.proofs.Fitting.{each_more}
use Rattle.mms_journal.proofs.formed.are_variables.Goals as goal

pub loop-variable-preserved : goal.loop-variable-preserved
loop-variable-preserved c = each_more IsVariable c.args.variables.now c.loop-variable.variable-index c.variable-item.result c.loop-variable-test.true c.variable-item.is (c.is_variable.ensures.variable c.if-not-is_variable.false) c.loop-variable.invariant
