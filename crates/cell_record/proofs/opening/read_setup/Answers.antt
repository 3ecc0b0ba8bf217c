use Rattle.std.proofs.Common.{arith, length, ap, refl, ◌∙◌}
use Rattle.cell_record.proofs.Readings.{part_same, part_then}
use Rattle.std.proofs.lemmas.Result.{err_from_is_err_and}
use Rattle.cell_record.proofs.Following.{follows_still, follows_same, opening_fails_then}
use Rattle.cell_record.proofs.opening.read_setup.Goals as goal

pub returns-then-branch-clause-goes : goal.returns-then-branch-clause-goes
returns-then-branch-clause-goes g c = record {
  order = omega (arith, c.loop-turn.invariant.turns, c.read_setup_line.ensures.goes.order);
  most = c.read_setup_line.ensures.goes.most;
  seen = λ first. c.read_setup_line.ensures.goes.seen (c.loop-turn.invariant.seen first);
  left = part_then _ _ _ c.loop-turn.invariant.left c.read_setup_line.ensures.goes.left;
}

pub returns-in_err-read_setup_line-clause-goes : goal.returns-in_err-read_setup_line-clause-goes
returns-in_err-read_setup_line-clause-goes g c = record {
  order = omega (arith, c.loop-turn.invariant.turns, c.read_setup_line.ensures.goes.order);
  most = c.read_setup_line.ensures.goes.most;
  seen = λ first. c.read_setup_line.ensures.goes.seen (c.loop-turn.invariant.seen first);
  left = part_then _ _ _ c.loop-turn.invariant.left c.read_setup_line.ensures.goes.left;
}

pub loop-turn-preserved : goal.loop-turn-preserved
loop-turn-preserved g c = record {
  rest = λ edition. follows_same _ _ _ (c.loop-turn.invariant.rest edition) (c.in_ok-read_setup_line.ensures.more c.if-branch.false edition);
  seen = λ first. c.read_setup_line.ensures.goes.seen (c.loop-turn.invariant.seen first);
  size = c.in_ok-read_setup_line.ensures.size;
  turns = omega (arith, c.loop-turn.invariant.turns, c.in_ok-read_setup_line.ensures.grows);
  most = c.read_setup_line.ensures.goes.most;
  left = part_then _ _ _ c.loop-turn.invariant.left c.read_setup_line.ensures.goes.left;
  faults = c.in_ok-read_setup_line.ensures.faults.steady ∙ c.loop-turn.invariant.faults;
}

pub returns-in_err-read_setup_line-clause-fails : goal.returns-in_err-read_setup_line-clause-fails
returns-in_err-read_setup_line-clause-fails g c =
    let r = err_from_is_err_and c.from_residual.result c.from_residual.ensures.1 in
    rw (r.1, r.2) (λ edition. opening_fails_then _ _ _ _ (c.loop-turn.invariant.rest edition) (c.in_err-read_setup_line.ensures.fails edition))

pub loop-turn-init : goal.loop-turn-init
loop-turn-init g c = record {
  rest = rw c.new-text.ensures.items (λ edition. follows_still _);
  seen = λ first. first;
  size = omega (arith, ap length c.new-text.ensures.items);
  turns = omega arith;
  most = omega (arith, c.given-given.ensures.given, c.given-given.ensures.most);
  left = part_same _;
  faults = refl;
}

pub returns-then-branch-clause-text : goal.returns-then-branch-clause-text
returns-then-branch-clause-text g c = λ edition. follows_same _ _ _ (c.loop-turn.invariant.rest edition) (c.in_ok-read_setup_line.ensures.end c.if-branch.true edition)
