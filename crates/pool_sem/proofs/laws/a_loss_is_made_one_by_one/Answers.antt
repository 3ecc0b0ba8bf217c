use Rattle.std.proofs.Common.{Some, length}
use Rattle.token_sem.proofs.OneByOne.{each-whole, each-ends, told-grants}
use Rattle.pool_sem.proofs.laws.a_loss_is_made_one_by_one.Goals as goal

pub returns-clause-whole : goal.returns-clause-whole
returns-clause-whole c p client now is = each-whole (Some (length p.tokens)) client now p.entries p.made is.rises

pub returns-clause-ends : goal.returns-clause-ends
returns-clause-ends c p client n now is = each-ends (Some (length p.tokens)) client now p.entries p.made is.rises n

pub returns-clause-grants : goal.returns-clause-grants
returns-clause-grants c client now l = told-grants (Some 0) client now l
