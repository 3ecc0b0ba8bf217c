use Rattle.std.proofs.Common.{ap, sym, ◌∙◌}
use Rattle.association.specs.Client.{Client as RoomyRow}
use Rattle.serve_events.proofs.DefiningLaws.{gone_refused, gone_served}
use Rattle.serve_events.proofs.enrolments.delete.Goals as goal

pub returns-in-Some-clause-served : goal.returns-in-Some-clause-served
returns-in-Some-clause-served c =
    gone_refused c.args.own.now.row c.args.invoke c.client.result (c.client.ensures ∙ ap (λ (r : RoomyRow). r.row.client) c.part.ensures) c.args.tables.now c.refuse.new.self
    c.refuse.result c.args.asked.now c.names_one-there.result c.in-Some.error c.names_one-there.ensures (sym c.in-Some.is ∙ c.delete_cause.ensures) c.refuse.ensures.sent

pub returns-in-None-clause-served : goal.returns-in-None-clause-served
returns-in-None-clause-served c =
    gone_served c.args.own.now.row c.args.invoke c.client.result (c.client.ensures ∙ ap (λ (r : RoomyRow). r.row.client) c.part.ensures) c.args.tables.now c.delete_there.new.own
    c.delete_there.result c.delete_there.new.tables c.args.asked.now c.names_one-there.result c.names_one-there.ensures (sym c.in-None.is ∙ c.delete_cause.ensures)
    c.delete_there.ensures.deleted c.delete_there.ensures.told
