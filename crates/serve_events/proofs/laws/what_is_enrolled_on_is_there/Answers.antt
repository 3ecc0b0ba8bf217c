use Rattle.serve_events.proofs.Placed.{lost_keeps, none_placed, request_keeps}
use Rattle.serve_events.proofs.laws.what_is_enrolled_on_is_there.Goals as goal

pub returns-clause-none : goal.returns-clause-none
returns-clause-none c = none_placed

pub returns-clause-done : goal.returns-clause-done
returns-clause-done c = request_keeps

pub returns-clause-lost : goal.returns-clause-lost
returns-clause-lost c = lost_keeps
