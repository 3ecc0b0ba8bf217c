use Rattle.std.proofs.Common.{ap, ◌∙◌}
use Rattle.association.specs.Client.{Client as RoomyRow}
use Rattle.serve_events.proofs.DefiningLaws.{status_told}
use Rattle.serve_events.proofs.conditions.status.Goals as goal

pub returns-clause-served : goal.returns-clause-served
returns-clause-served c =
    status_told c.args.own.now.row c.args.invoke c.client.result (c.client.ensures ∙ ap (λ (r : RoomyRow). r.row.client) c.part.ensures) c.args.tables.now c.settle.new.self
    c.status_said-said.result c.args.name.now c.status_said-said.ensures c.in_ok-_answered.ensures.told
