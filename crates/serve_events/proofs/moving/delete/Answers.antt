use Rattle.std.proofs.Common.{List, ap, ◌∙◌}
use Rattle.association.specs.Client.{Client as RoomyRow}
use Rattle.mms_types.specs.declared.object_name.ObjectName.{ObjectName}
use Rattle.object_names.specs.Deletion.{missing}
use Rattle.event_cond.specs.Deletion.{deletions}
use Rattle.serve_events.proofs.MovingLaws.{delete_effect, delete_turned}
use Rattle.serve_events.proofs.moving.delete.Goals as goal

pub turn-requires-clause-turns : goal.turn-requires-clause-turns
turn-requires-clause-turns c =
    delete_turned c.args.tables.now c.args.own.now.row c.args.invoke c.client-client.result (c.client-client.ensures ∙ ap (λ (r : RoomyRow). r.row.client) c.part.ensures) c.args.now
    c.args.names.now c.in_ok-told.told.turned
    (c.in_ok-told.ensures.turned ∙ ap (λ (names : List ObjectName). deletions c.client-client.result c.args.now names c.args.tables.now.conditions) c.as_slice.ensures)

pub turn-requires-clause-effect : goal.turn-requires-clause-effect
turn-requires-clause-effect c facts at truth =
    delete_effect c.args.tables.now c.args.own.now.row c.args.invoke c.client-client.result (c.client-client.ensures ∙ ap (λ (r : RoomyRow). r.row.client) c.part.ensures) c.args.now
    c.args.names.now c.in_ok-told.told.missing
    (c.in_ok-told.ensures.missing ∙ ap (λ (names : List ObjectName). missing c.client-client.result names c.args.tables.now.conditions) c.as_slice.ensures) facts at
