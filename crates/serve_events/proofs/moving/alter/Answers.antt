use Rattle.std.proofs.Common.{ap, ◌∙◌}
use Rattle.mms_types.specs.declared.service_error.ServiceError.{ServiceError}
use Rattle.cell_client.specs.Effects.{felt, settled}
use Rattle.cell_client.specs.Requests.{refuses}
use Rattle.association.specs.Client.{Client as RoomyRow}
use Rattle.serve_events.proofs.MovingLaws.{alter_refused, error_said}
use Rattle.serve_events.proofs.moving.alter.Goals as goal

pub returns-in_ok-refuse-in-Err-Service-clause-served : goal.returns-in_ok-refuse-in-Err-Service-clause-served
returns-in_ok-refuse-in-Err-Service-clause-served c facts at truth =
    alter_refused c.args.tables.now c.args.own.now.row c.args.invoke c.client-client.result (c.client-client.ensures ∙ ap (λ (r : RoomyRow). r.row.client) c.part.ensures) c.args.now
    c.args.asked.now c.refuse.new.self c.in-Err-Service.error
    (error_said _ c.in-Err-Service.error _ _ c.in-Err-Service.field-0-is c.in-Err-Service.ensures.served)
    (c.in_ok-refuse-in-Err-Service.ensures.sent ∙ ap (λ (e : ServiceError). settled (felt (refuses c.args.invoke e) c.args.own.now.row)) c.in-Err-Service.error-is) facts
