use Rattle.std.proofs.Common.{sym, ◌∙◌}
use Rattle.mms_pdu.proofs.ByArea.{first_put, second_put, third_put, fourth_put, fifth_put, sixth_put}
use Rattle.mms_pdu.proofs.request.put_argument.Goals as goal
use Rattle.mms_pdu.proofs.request.put_argument.Goals.{then-branch-via-then-branch, then-branch-via-else-branch+in_ok-put_request-2+then-branch-2, then-branch-via-else-branch+in_ok-put_request-2+else-branch-2+in_ok-put_request-3+then-branch-3, then-branch-via-else-branch+in_ok-put_request-2+else-branch-2+in_ok-put_request-3+else-branch-3+in_ok-put_request-4+then-branch-4, then-branch-via-else-branch+in_ok-put_request-2+else-branch-2+in_ok-put_request-3+else-branch-3+in_ok-put_request-4+else-branch-4+in_ok-put_request-5+then-branch-5}

pub returns-then-branch-clause-ok : goal.returns-then-branch-clause-ok
returns-then-branch-clause-ok c =
    elim c.then-branch.branch [
      | then-branch-via-then-branch w ↦ w.out-is ∙ first_put c.args.request.now c.args.out.now c.put_request.new.out c.in_ok-put_request.ensures.ok (sym c.in_ok-put_request.ensures.own ∙ w.if-branch.true)
      | then-branch-via-else-branch+in_ok-put_request-2+then-branch-2 w ↦ w.out-is ∙ second_put c.args.request.now c.args.out.now c.put_request.new.out c.in_ok-put_request.ensures.ok
          w.put_request-else-branch.new.out w.in_ok-put_request-2.ensures.ok (sym c.in_ok-put_request.ensures.own ∙ w.if-branch.false) (sym w.in_ok-put_request-2.ensures.own ∙ w.if-branch-2.true)
      | then-branch-via-else-branch+in_ok-put_request-2+else-branch-2+in_ok-put_request-3+then-branch-3 w ↦ w.out-is ∙ third_put c.args.request.now c.args.out.now c.put_request.new.out c.in_ok-put_request.ensures.ok
          w.put_request-else-branch.new.out w.in_ok-put_request-2.ensures.ok (sym c.in_ok-put_request.ensures.own ∙ w.if-branch.false)
          w.put_request-else-branch-2.new.out w.in_ok-put_request-3.ensures.ok (sym w.in_ok-put_request-2.ensures.own ∙ w.if-branch-2.false) (sym w.in_ok-put_request-3.ensures.own ∙ w.if-branch-3.true)
      | then-branch-via-else-branch+in_ok-put_request-2+else-branch-2+in_ok-put_request-3+else-branch-3+in_ok-put_request-4+then-branch-4 w ↦ w.out-is ∙ fourth_put c.args.request.now c.args.out.now c.put_request.new.out c.in_ok-put_request.ensures.ok
          w.put_request-else-branch.new.out w.in_ok-put_request-2.ensures.ok (sym c.in_ok-put_request.ensures.own ∙ w.if-branch.false)
          w.put_request-else-branch-2.new.out w.in_ok-put_request-3.ensures.ok (sym w.in_ok-put_request-2.ensures.own ∙ w.if-branch-2.false)
          w.put_request-else-branch-3.new.out w.in_ok-put_request-4.ensures.ok (sym w.in_ok-put_request-3.ensures.own ∙ w.if-branch-3.false) (sym w.in_ok-put_request-4.ensures.own ∙ w.if-branch-4.true)
      | then-branch-via-else-branch+in_ok-put_request-2+else-branch-2+in_ok-put_request-3+else-branch-3+in_ok-put_request-4+else-branch-4+in_ok-put_request-5+then-branch-5 w ↦ w.out-is ∙ fifth_put c.args.request.now c.args.out.now c.put_request.new.out c.in_ok-put_request.ensures.ok
          w.put_request-else-branch.new.out w.in_ok-put_request-2.ensures.ok (sym c.in_ok-put_request.ensures.own ∙ w.if-branch.false)
          w.put_request-else-branch-2.new.out w.in_ok-put_request-3.ensures.ok (sym w.in_ok-put_request-2.ensures.own ∙ w.if-branch-2.false)
          w.put_request-else-branch-3.new.out w.in_ok-put_request-4.ensures.ok (sym w.in_ok-put_request-3.ensures.own ∙ w.if-branch-3.false)
          w.put_request-else-branch-4.new.out w.in_ok-put_request-5.ensures.ok (sym w.in_ok-put_request-4.ensures.own ∙ w.if-branch-4.false) (sym w.in_ok-put_request-5.ensures.own ∙ w.if-branch-5.true)
    ]

pub returns-clause-ok : goal.returns-clause-ok
returns-clause-ok c =
    sixth_put c.args.request.now c.args.out.now c.put_request.new.out c.in_ok-put_request.ensures.ok c.put_request-else-branch.new.out c.in_ok-put_request-2.ensures.ok (sym c.in_ok-put_request.ensures.own ∙ c.if-branch.false)
    c.put_request-else-branch-2.new.out c.in_ok-put_request-3.ensures.ok (sym c.in_ok-put_request-2.ensures.own ∙ c.if-branch-2.false) c.put_request-else-branch-3.new.out c.in_ok-put_request-4.ensures.ok (sym c.in_ok-put_request-3.ensures.own ∙ c.if-branch-3.false) c.put_request-else-branch-4.new.out c.in_ok-put_request-5.ensures.ok (sym c.in_ok-put_request-4.ensures.own ∙ c.if-branch-4.false) c.put_request-2.new.out (sym c.in_ok-put_request-5.ensures.own ∙ c.if-branch-5.false) c.in_ok-put_request-6.ensures.ok
