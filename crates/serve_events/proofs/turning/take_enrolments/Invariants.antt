use Rattle.std.proofs.Common.{◌≡◌, length}
use Rattle.serve_events.specs.Events.{without_turned}
use Rattle.serve_events.proofs.turning.take_enrolments.Given as goal

-- what those that are to come leave is what all leave
abbrev pub invariant-loop-turned : goal.invariant-loop-turned
invariant-loop-turned l = without_turned l.rest l.enrolments ≡ without_turned l.fn.turns l.fn.enrolments

abbrev pub decreases-loop-turned : goal.decreases-loop-turned
decreases-loop-turned l = length l.rest
