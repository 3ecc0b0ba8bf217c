use Rattle.std.proofs.Common.{◌∙◌, arith}
use Rattle.ber_core.proofs.Leaves.{integer_found, integer_again, integer_bad, integer_no_other}
use Rattle.ber_core.proofs.leaf.integer.Goals as goal

pub returns-clause-found : goal.returns-clause-found
returns-clause-found c = integer_found c.args.contents.now c.signed.result (λ i. omega (arith, c.type_inv.contents i)) c.signed.ensures

pub returns-clause-only : goal.returns-clause-only
returns-clause-only c = λ n is. c.signed.ensures ∙ integer_again c.args.contents.now n is

pub returns-clause-bad : goal.returns-clause-bad
returns-clause-bad c = rw c.signed.ensures (integer_bad c.args.contents.now)

pub returns-clause-no_other : goal.returns-clause-no_other
returns-clause-no_other c = integer_no_other c.args.contents.now c.signed.result c.signed.ensures
