use Rattle.std.proofs.Common.{ap, sym, ◌∙◌}
use Rattle.association.specs.Client.{Client as RoomyRow}
use Rattle.serve_events.proofs.DefiningLaws.{condition_refused, condition_served}
use Rattle.serve_events.proofs.conditions.define.Goals as goal

pub returns-in-Some-clause-served : goal.returns-in-Some-clause-served
returns-in-Some-clause-served c =
    condition_refused c.args.own.now.row c.args.invoke c.client-client.result (c.client-client.ensures ∙ ap (λ (r : RoomyRow). r.row.client) c.part.ensures) c.args.tables.now c.refuse.new.self
    c.refuse.result c.args.now c.args.live c.args.cell c.args.asked.now c.in-Some.error (sym c.in-Some.is ∙ c.define_cause.ensures) c.refuse.ensures.sent

pub returns-in-None-clause-served : goal.returns-in-None-clause-served
returns-in-None-clause-served c =
    condition_served c.args.own.now.row c.args.invoke c.client-client.result (c.client-client.ensures ∙ ap (λ (r : RoomyRow). r.row.client) c.part.ensures) c.args.tables.now c.define_new.new.own
    c.define_new.result c.define_new.new.tables c.args.now c.args.live c.args.cell c.args.asked.now (sym c.in-None.is ∙ c.define_cause.ensures) c.define_new.ensures.defined
    c.define_new.ensures.told
