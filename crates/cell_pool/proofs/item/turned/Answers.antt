use Rattle.std.proofs.Math.Logic.{∥∥₁_map₂}
use Rattle.cell_pool.proofs.Facts.{if_more, same_left, same_right}
use Rattle.cell_pool.proofs.item.turned.Goals as goal

pub turn-step-requires : goal.turn-step-requires
turn-step-requires g c = record { fit = same_left (g.T.Turn.fit c.args.turns.now) g.C.Given.fit c.args.item.job c.requires.same c.args.item.is_fit }

pub loop-turn-init : goal.loop-turn-init
loop-turn-init g c = record {
  fit = c.turn-step.ensures.fit;
  made = ∥∥₁_map₂ c.args.item.is_made c.turn-step.ensures.made (λ a b. if_more _ _ _ (λ x made. g.met.T.Turn.joins _ _ _ made b) a);
  done = c.turn-step.ensures.done;
  short = c.turn-step.ensures.short;
}

pub loop-turn-preserved : goal.loop-turn-preserved
loop-turn-preserved g c = record {
  fit = c.turned_again-step.ensures.fit;
  made = ∥∥₁_map₂ c.loop-turn.invariant.made c.turned_again-step.ensures.made (λ a b. if_more _ _ _ (λ x made. g.met.T.Turn.joins _ _ _ made b) a);
  done = c.turned_again-step.ensures.done;
  short = c.turned_again-step.ensures.short;
}

pub invariant_of-result-clause-is_made : goal.invariant_of-result-clause-is_made
invariant_of-result-clause-is_made g c = c.loop-turn.invariant.made

pub invariant_of-result-clause-is_fit : goal.invariant_of-result-clause-is_fit
invariant_of-result-clause-is_fit g c = same_right (g.T.Turn.fit c.args.turns.now) g.C.Given.fit c.loop-turn.job c.requires.same c.loop-turn.invariant.fit
