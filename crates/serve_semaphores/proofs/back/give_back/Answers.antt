use Rattle.serve_semaphores.proofs.TokenLaws.{told_same}
use Rattle.serve_semaphores.proofs.back.give_back.Goals as goal

pub returns-else-branch-clause-left : goal.returns-else-branch-clause-left
returns-else-branch-clause-left c =
    told_same c.granting.result (λ told. told.items) c.args.invoke c.args.now c.args.asked.now c.give_back_ungranted.new.own c.args.own.now c.give_back_ungranted.new.rows c.args.rows.now
    (c.in_ok-give_back_ungranted.ensures.unchanged c.if-branch.false) c.granting.ensures.left
