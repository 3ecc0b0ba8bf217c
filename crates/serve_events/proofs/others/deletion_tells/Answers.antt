use Rattle.std.proofs.Common.{List, ap, ◌∙◌}
use Rattle.mms_types.specs.declared.object_name.ObjectName.{ObjectName}
use Rattle.object_names.specs.Deletion.{missing}
use Rattle.event_cond.specs.Deletion.{deletions}
use Rattle.serve_events.proofs.OthersLaws.{deletion_clients}
use Rattle.serve_events.proofs.others.deletion_tells.Goals as goal

pub returns : goal.returns
returns c =
    deletion_clients (λ clients. clients.items) c.args.tables.now c.args.part.now.row c.args.invoke c.client.result c.client.ensures c.args.now c.clients_if.result c.args.names.now
    c.in_ok-told.told.missing c.as_slice-turns.result.now
    (c.in_ok-told.ensures.missing ∙ ap (λ (names : List ObjectName). missing c.client.result names c.args.tables.now.conditions) c.as_slice.ensures)
    (c.as_slice-turns.ensures ∙ c.in_ok-told.ensures.turned
    ∙ ap (λ (names : List ObjectName). deletions c.client.result c.args.now names c.args.tables.now.conditions) c.as_slice.ensures)
    c.clients_if.ensures
