use Rattle.std.proofs.Common.{◌≡◌, length}
use Rattle.event_ticks.specs.Skipping.{conditions_left}
use Rattle.event_ticks.proofs.losing.lose_conditions.Given as goal

-- what the losses that are to come leave is what all leave
abbrev pub invariant-loop-loss : goal.invariant-loop-loss
invariant-loop-loss l = conditions_left l.until l.rest l.conditions ≡ conditions_left l.fn.until l.fn.losses l.fn.conditions

abbrev pub decreases-loop-loss : goal.decreases-loop-loss
decreases-loop-loss l = length l.rest
