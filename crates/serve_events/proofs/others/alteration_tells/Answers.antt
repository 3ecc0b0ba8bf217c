use Rattle.std.proofs.Common.{◌∙◌}
use Rattle.serve_events.proofs.OthersLaws.{alteration_clients}
use Rattle.serve_events.proofs.others.alteration_tells.Goals as goal

pub returns-in_ok-turns-in-Ok : goal.returns-in_ok-turns-in-Ok
returns-in_ok-turns-in-Ok c =
    alteration_clients (λ clients. clients.items) c.args.tables.now c.args.part.now.row c.args.invoke c.client.result c.client.ensures c.args.now c.clients_if.result c.args.is_true
    c.args.asked.now c.in-Ok.told c.as_slice.result.now c.in-Ok.ensures.served (c.as_slice.ensures ∙ c.in_ok-turns-in-Ok.ensures) c.clients_if.ensures
