use Rattle.std.proofs.Common.{◌≡◌, length}
use Rattle.serve_events.specs.Events.{without_named}
use Rattle.serve_events.proofs.turning.take_conditions.Given as goal

-- what those that are to come leave is what all leave
abbrev pub invariant-loop-turned : goal.invariant-loop-turned
invariant-loop-turned l = without_named l.rest l.conditions ≡ without_named l.fn.turns l.fn.conditions

abbrev pub decreases-loop-turned : goal.decreases-loop-turned
decreases-loop-turned l = length l.rest
