use Rattle.step_parts.proofs.Changed.{place_left}
use Rattle.step_parts.proofs.slots.take.Goals as goal

pub returns-clause-place : goal.returns-clause-place
returns-clause-place c = place_left c.args.held.now c.take.new.self c.args.place c.in-Some.part.value c.in-Some.ensures.part c.in-Some.ensures.left
