use Rattle.std.proofs.Common.{◌≡◌, sym, subst}
use Rattle.std.specs.Prelude.{IfOk, IfSome}
use Rattle.mms_types.specs.declared.area.SemaphoreRequest.{SemaphoreRequest}
use Rattle.cell_client.specs.Areas.{IsToldIn}
use Rattle.cell_client.specs.Facts.{Facts}
use Rattle.cell_client.specs.Telling.{effects_told}
use Rattle.serve_semaphores.specs.Semaphores.{request_in}
use Rattle.serve_semaphores.specs.Tokens.{told_after}
use Rattle.serve_semaphores.proofs.serving.serve.Goals as goal

pub returns-in-RelinquishControl-clause-left : goal.returns-in-RelinquishControl-clause-left
returns-in-RelinquishControl-clause-left c =
    subst (λ (q : SemaphoreRequest). IfOk c.give_back.result (λ left. IfSome left (λ told. (facts : Facts) → facts.now ≡ c.args.now
    → IsToldIn (request_in q) facts c.args.invoke c.args.own.now.row c.args.rows.now (told_after c.args.own.now.row.client c.args.now q c.args.rows.now) (effects_told told.items))))
    (sym c.in-RelinquishControl.is) c.give_back.ensures.left
