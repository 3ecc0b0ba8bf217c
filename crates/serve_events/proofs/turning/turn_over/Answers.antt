use Rattle.serve_events.proofs.Turned.{over_deleted}
use Rattle.serve_events.proofs.turning.turn_over.Goals as goal

pub returns-in-DeleteEventCondition : goal.returns-in-DeleteEventCondition
returns-in-DeleteEventCondition c =
    over_deleted c.args.client c.args.now c.args.is_true c.args.asked c.in-DeleteEventCondition.field-0 c.args.tables.now c.args.turns.now c.take_conditions.new.conditions
    c.take_enrolments.new.enrolments c.in-DeleteEventCondition.is c.requires.turns c.take_conditions.ensures c.take_enrolments.ensures
