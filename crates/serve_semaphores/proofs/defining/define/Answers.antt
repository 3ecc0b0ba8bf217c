use Rattle.std.proofs.Common.{ap, sym, ◌∙◌}
use Rattle.association.specs.Client.{Client as RoomyRow}
use Rattle.serve_semaphores.proofs.DefiningLaws.{define_refused}
use Rattle.serve_semaphores.proofs.defining.define.Goals as goal

pub returns-in-Some-clause-served : goal.returns-in-Some-clause-served
returns-in-Some-clause-served c =
    define_refused c.args.own.now.row c.args.invoke c.client.result (c.client.ensures ∙ ap (λ (r : RoomyRow). r.row.client) c.part.ensures) c.args.rows.now c.refuse.new.self c.refuse.result
    c.args.live c.args.asked.now c.in-Some.error (sym c.in-Some.is ∙ c.define_semaphore_cause.ensures) c.refuse.ensures.sent
