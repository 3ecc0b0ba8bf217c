use Rattle.std.proofs.Common.{◌≡◌, sym, subst}
use Rattle.std.specs.Prelude.{IfOk, IfSome}
use Rattle.mms_types.specs.declared.area.EventRequest.{EventRequest}
use Rattle.cell_client.specs.Areas.{IsToldIn}
use Rattle.cell_client.specs.Facts.{Facts}
use Rattle.cell_client.specs.Telling.{effects_told}
use Rattle.serve_events.specs.Events.{request_in}
use Rattle.serve_events.specs.Turns.{turned_after, turns_of}
use Rattle.serve_events.proofs.serving.serve.Goals as goal

pub returns-in-DeleteEventCondition-clause-left : goal.returns-in-DeleteEventCondition-clause-left
returns-in-DeleteEventCondition-clause-left c =
    subst (λ (q : EventRequest). IfOk c.delete.result (λ left. IfSome left (λ l. (facts : Facts) → facts.now ≡ c.args.now → facts.truth ≡ c.args.is_true
    → IsToldIn (request_in q) facts c.args.invoke c.args.own.now.row c.args.tables.now
    (turned_after c.args.own.now.row.client c.args.now c.args.is_true q c.args.tables.now) (effects_told l.told.items))))
    (sym c.in-DeleteEventCondition.is) c.delete.ensures.left

pub returns-in-DeleteEventCondition-clause-turns : goal.returns-in-DeleteEventCondition-clause-turns
returns-in-DeleteEventCondition-clause-turns c =
    subst (λ (q : EventRequest). IfOk c.delete.result (λ left. IfSome left (λ l. l.turns ≡ turns_of c.args.own.now.row.client c.args.now c.args.is_true q c.args.tables.now)))
    (sym c.in-DeleteEventCondition.is) c.delete.ensures.turns

pub returns-in-AlterEventConditionMonitoring-clause-left : goal.returns-in-AlterEventConditionMonitoring-clause-left
returns-in-AlterEventConditionMonitoring-clause-left c =
    subst (λ (q : EventRequest). IfOk c.alter.result (λ left. IfSome left (λ l. (facts : Facts) → facts.now ≡ c.args.now → facts.truth ≡ c.args.is_true
    → IsToldIn (request_in q) facts c.args.invoke c.args.own.now.row c.args.tables.now
    (turned_after c.args.own.now.row.client c.args.now c.args.is_true q c.args.tables.now) (effects_told l.told.items))))
    (sym c.in-AlterEventConditionMonitoring.is) c.alter.ensures.left

pub returns-in-AlterEventConditionMonitoring-clause-turns : goal.returns-in-AlterEventConditionMonitoring-clause-turns
returns-in-AlterEventConditionMonitoring-clause-turns c =
    subst (λ (q : EventRequest). IfOk c.alter.result (λ left. IfSome left (λ l. l.turns ≡ turns_of c.args.own.now.row.client c.args.now c.args.is_true q c.args.tables.now)))
    (sym c.in-AlterEventConditionMonitoring.is) c.alter.ensures.turns

pub returns-in-TriggerEvent-clause-left : goal.returns-in-TriggerEvent-clause-left
returns-in-TriggerEvent-clause-left c =
    subst (λ (q : EventRequest). IfOk c.trigger.result (λ left. IfSome left (λ l. (facts : Facts) → facts.now ≡ c.args.now → facts.truth ≡ c.args.is_true
    → IsToldIn (request_in q) facts c.args.invoke c.args.own.now.row c.args.tables.now
    (turned_after c.args.own.now.row.client c.args.now c.args.is_true q c.args.tables.now) (effects_told l.told.items))))
    (sym c.in-TriggerEvent.is) c.trigger.ensures.left

pub returns-in-TriggerEvent-clause-turns : goal.returns-in-TriggerEvent-clause-turns
returns-in-TriggerEvent-clause-turns c =
    subst (λ (q : EventRequest). IfOk c.trigger.result (λ left. IfSome left (λ l. l.turns ≡ turns_of c.args.own.now.row.client c.args.now c.args.is_true q c.args.tables.now)))
    (sym c.in-TriggerEvent.is) c.trigger.ensures.turns
