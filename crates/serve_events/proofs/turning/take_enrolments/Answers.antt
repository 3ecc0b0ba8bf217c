use Rattle.serve_events.specs.Events.{without_turned}
use Rattle.serve_events.proofs.Turned.{turned_end}
use Rattle.serve_events.proofs.turning.take_enrolments.Goals as goal

pub returns : goal.returns
returns c = turned_end c.loop-turned.rest.now c.loop-turned.enrolments (without_turned c.args.turns.now c.args.enrolments.now) c.in_default.ensures.cases c.loop-turned.invariant
