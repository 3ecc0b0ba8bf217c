use Rattle.std.proofs.Common.{◌≡◌, length}
use Rattle.event_ticks.specs.Skipping.{is_left}
use Rattle.event_ticks.proofs.losing.is_left.Given as goal

-- what the losses that are left say is what all say
abbrev pub invariant-loop-loss : goal.invariant-loop-loss
invariant-loop-loss l = is_left l.at l.rest l.key ≡ is_left l.fn.at l.fn.losses l.fn.key

abbrev pub decreases-loop-loss : goal.decreases-loop-loss
decreases-loop-loss l = length l.rest
