use Rattle.std.proofs.Common.{ap, sym, ◌∙◌}
use Rattle.association.specs.Client.{Client as RoomyRow}
use Rattle.serve_semaphores.proofs.DefiningLaws.{delete_refused}
use Rattle.serve_semaphores.proofs.defining.delete.Goals as goal

pub returns-in-Some-clause-served : goal.returns-in-Some-clause-served
returns-in-Some-clause-served c =
    delete_refused c.args.own.now.row c.args.invoke c.client.result (c.client.ensures ∙ ap (λ (r : RoomyRow). r.row.client) c.part.ensures) c.args.rows.now c.refuse.new.self c.refuse.result
    c.args.name.now c.in-Some.error (sym c.in-Some.is ∙ c.delete_semaphore_cause.ensures) c.refuse.ensures.sent
