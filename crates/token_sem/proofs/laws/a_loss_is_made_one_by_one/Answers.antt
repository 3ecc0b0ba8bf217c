use Rattle.std.proofs.Common.{None}
use Rattle.token_sem.proofs.OneByOne.{each-whole, each-ends, told-grants}
use Rattle.token_sem.proofs.laws.a_loss_is_made_one_by_one.Goals as goal

pub returns-clause-whole : goal.returns-clause-whole
returns-clause-whole c s client now is = each-whole None client now s.entries s.made is.rises

pub returns-clause-ends : goal.returns-clause-ends
returns-clause-ends c s client n now is = each-ends None client now s.entries s.made is.rises n

pub returns-clause-grants : goal.returns-clause-grants
returns-clause-grants c client now l = told-grants None client now l
