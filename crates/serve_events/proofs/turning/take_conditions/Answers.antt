use Rattle.serve_events.specs.Events.{without_named}
use Rattle.serve_events.proofs.Turned.{named_end}
use Rattle.serve_events.proofs.turning.take_conditions.Goals as goal

pub returns : goal.returns
returns c = named_end c.loop-turned.rest.now c.loop-turned.conditions (without_named c.args.turns.now c.args.conditions.now) c.in_default.ensures.cases c.loop-turned.invariant
