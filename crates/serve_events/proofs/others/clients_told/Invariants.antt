use Rattle.std.proofs.Common.{◌≡◌, ◌++◌, length}
use Rattle.serve_events.specs.Told.{clients_of}
use Rattle.serve_events.proofs.others.clients_told.Given as goal

-- those so far, and then those of the transitions that are left
abbrev pub invariant-loop-turned : goal.invariant-loop-turned
invariant-loop-turned l = l.clients.items ++ clients_of l.rest l.enrolments ≡ clients_of l.fn.turns l.fn.enrolments

abbrev pub decreases-loop-turned : goal.decreases-loop-turned
decreases-loop-turned l = length l.rest
