use Rattle.std.proofs.Common.{◌∙◌}
use Rattle.ber_core.proofs.Leaves.{boolean_found, boolean_again, boolean_bad, boolean_no_other}
use Rattle.ber_core.proofs.leaf.boolean.Goals as goal

pub returns-clause-found : goal.returns-clause-found
returns-clause-found c = boolean_found c.args.contents.now c.truth.result c.truth.ensures

pub returns-clause-only : goal.returns-clause-only
returns-clause-only c = λ b is. c.truth.ensures ∙ boolean_again c.args.contents.now b is

pub returns-clause-bad : goal.returns-clause-bad
returns-clause-bad c = rw c.truth.ensures (boolean_bad c.args.contents.now)

pub returns-clause-no_other : goal.returns-clause-no_other
returns-clause-no_other c = boolean_no_other c.args.contents.now c.truth.result c.truth.ensures
