use Rattle.serve_events.proofs.OthersLaws.{deletion_as, trigger_as}
use Rattle.serve_events.proofs.others.tells.Goals as goal

pub returns-in-DeleteEventCondition-clause-told : goal.returns-in-DeleteEventCondition-clause-told
returns-in-DeleteEventCondition-clause-told c =
    deletion_as (λ clients. clients.items) c.args.tables.now c.args.part.now.row c.args.invoke c.args.now c.args.is_true c.args.asked c.deletion_tells.result c.in-DeleteEventCondition.names
    c.in-DeleteEventCondition.is c.deletion_tells.ensures

pub returns-in-TriggerEvent-clause-told : goal.returns-in-TriggerEvent-clause-told
returns-in-TriggerEvent-clause-told c =
    trigger_as (λ clients. clients.items) c.args.tables.now c.args.part.now.row c.args.invoke c.args.now c.args.is_true c.args.asked c.trigger_tells.result c.in-TriggerEvent.asked
    c.in-TriggerEvent.is c.trigger_tells.ensures
