use Rattle.serve_events.proofs.OthersLaws.{trigger_clients}
use Rattle.serve_events.proofs.others.trigger_tells.Goals as goal

pub returns-in-Ok : goal.returns-in-Ok
returns-in-Ok c =
    trigger_clients (λ clients. clients.items) c.args.tables.now c.args.part.now.row c.args.invoke c.client.result c.client.ensures c.args.now c.clients_if.result c.args.asked.now
    c.in-Ok.turns c.as_slice.result.now c.in-Ok.ensures c.as_slice.ensures c.clients_if.ensures
