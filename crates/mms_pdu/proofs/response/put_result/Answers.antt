use Rattle.std.proofs.Common.{sym, ◌∙◌}
use Rattle.mms_pdu.proofs.ByArea.{first_put_answer, second_put_answer, third_put_answer, fourth_put_answer, fifth_put_answer, sixth_put_answer}
use Rattle.mms_pdu.proofs.response.put_result.Goals as goal
use Rattle.mms_pdu.proofs.response.put_result.Goals.{then-branch-via-then-branch, then-branch-via-else-branch+in_ok-put_answer-2+then-branch-2, then-branch-via-else-branch+in_ok-put_answer-2+else-branch-2+in_ok-put_answer-3+then-branch-3, then-branch-via-else-branch+in_ok-put_answer-2+else-branch-2+in_ok-put_answer-3+else-branch-3+in_ok-put_answer-4+then-branch-4, then-branch-via-else-branch+in_ok-put_answer-2+else-branch-2+in_ok-put_answer-3+else-branch-3+in_ok-put_answer-4+else-branch-4+in_ok-put_answer-5+then-branch-5}

pub returns-then-branch-clause-ok : goal.returns-then-branch-clause-ok
returns-then-branch-clause-ok c =
    elim c.then-branch.branch [
      | then-branch-via-then-branch w ↦ w.out-is ∙ first_put_answer c.args.answer.now c.args.out.now c.put_answer.new.out c.in_ok-put_answer.ensures.ok (sym c.in_ok-put_answer.ensures.own ∙ w.if-branch.true)
      | then-branch-via-else-branch+in_ok-put_answer-2+then-branch-2 w ↦ w.out-is ∙ second_put_answer c.args.answer.now c.args.out.now c.put_answer.new.out c.in_ok-put_answer.ensures.ok
          w.put_answer-else-branch.new.out w.in_ok-put_answer-2.ensures.ok (sym c.in_ok-put_answer.ensures.own ∙ w.if-branch.false) (sym w.in_ok-put_answer-2.ensures.own ∙ w.if-branch-2.true)
      | then-branch-via-else-branch+in_ok-put_answer-2+else-branch-2+in_ok-put_answer-3+then-branch-3 w ↦ w.out-is ∙ third_put_answer c.args.answer.now c.args.out.now c.put_answer.new.out c.in_ok-put_answer.ensures.ok
          w.put_answer-else-branch.new.out w.in_ok-put_answer-2.ensures.ok (sym c.in_ok-put_answer.ensures.own ∙ w.if-branch.false)
          w.put_answer-else-branch-2.new.out w.in_ok-put_answer-3.ensures.ok (sym w.in_ok-put_answer-2.ensures.own ∙ w.if-branch-2.false) (sym w.in_ok-put_answer-3.ensures.own ∙ w.if-branch-3.true)
      | then-branch-via-else-branch+in_ok-put_answer-2+else-branch-2+in_ok-put_answer-3+else-branch-3+in_ok-put_answer-4+then-branch-4 w ↦ w.out-is ∙ fourth_put_answer c.args.answer.now c.args.out.now c.put_answer.new.out c.in_ok-put_answer.ensures.ok
          w.put_answer-else-branch.new.out w.in_ok-put_answer-2.ensures.ok (sym c.in_ok-put_answer.ensures.own ∙ w.if-branch.false)
          w.put_answer-else-branch-2.new.out w.in_ok-put_answer-3.ensures.ok (sym w.in_ok-put_answer-2.ensures.own ∙ w.if-branch-2.false)
          w.put_answer-else-branch-3.new.out w.in_ok-put_answer-4.ensures.ok (sym w.in_ok-put_answer-3.ensures.own ∙ w.if-branch-3.false) (sym w.in_ok-put_answer-4.ensures.own ∙ w.if-branch-4.true)
      | then-branch-via-else-branch+in_ok-put_answer-2+else-branch-2+in_ok-put_answer-3+else-branch-3+in_ok-put_answer-4+else-branch-4+in_ok-put_answer-5+then-branch-5 w ↦ w.out-is ∙ fifth_put_answer c.args.answer.now c.args.out.now c.put_answer.new.out c.in_ok-put_answer.ensures.ok
          w.put_answer-else-branch.new.out w.in_ok-put_answer-2.ensures.ok (sym c.in_ok-put_answer.ensures.own ∙ w.if-branch.false)
          w.put_answer-else-branch-2.new.out w.in_ok-put_answer-3.ensures.ok (sym w.in_ok-put_answer-2.ensures.own ∙ w.if-branch-2.false)
          w.put_answer-else-branch-3.new.out w.in_ok-put_answer-4.ensures.ok (sym w.in_ok-put_answer-3.ensures.own ∙ w.if-branch-3.false)
          w.put_answer-else-branch-4.new.out w.in_ok-put_answer-5.ensures.ok (sym w.in_ok-put_answer-4.ensures.own ∙ w.if-branch-4.false) (sym w.in_ok-put_answer-5.ensures.own ∙ w.if-branch-5.true)
    ]

pub returns-clause-ok : goal.returns-clause-ok
returns-clause-ok c =
    sixth_put_answer c.args.answer.now c.args.out.now c.put_answer.new.out c.in_ok-put_answer.ensures.ok c.put_answer-else-branch.new.out c.in_ok-put_answer-2.ensures.ok (sym c.in_ok-put_answer.ensures.own ∙ c.if-branch.false)
    c.put_answer-else-branch-2.new.out c.in_ok-put_answer-3.ensures.ok (sym c.in_ok-put_answer-2.ensures.own ∙ c.if-branch-2.false) c.put_answer-else-branch-3.new.out c.in_ok-put_answer-4.ensures.ok (sym c.in_ok-put_answer-3.ensures.own ∙ c.if-branch-3.false) c.put_answer-else-branch-4.new.out c.in_ok-put_answer-5.ensures.ok (sym c.in_ok-put_answer-4.ensures.own ∙ c.if-branch-4.false) c.put_answer-2.new.out (sym c.in_ok-put_answer-5.ensures.own ∙ c.if-branch-5.false) c.in_ok-put_answer-6.ensures.ok
