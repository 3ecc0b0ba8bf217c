use Rattle.std.proofs.Common.{◌≡◌, length}
use Rattle.serve_events.specs.Events.{first_watched}
use Rattle.serve_events.proofs.asked.first_watched.Given as goal

-- the first among those that are left is the first of all
abbrev pub invariant-loop-name : goal.invariant-loop-name
invariant-loop-name l = first_watched l.client l.conditions l.rest ≡ first_watched l.fn.client l.fn.conditions l.fn.names

abbrev pub decreases-loop-name : goal.decreases-loop-name
decreases-loop-name l = length l.rest
