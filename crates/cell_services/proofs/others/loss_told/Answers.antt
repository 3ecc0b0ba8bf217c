use Rattle.std.proofs.Common.{ap, sym, ◌∙◌}
use Rattle.std.specs.Option.{option_copied}
use Rattle.std.proofs.lemmas.Result.{IfOk-weaker}
use Rattle.cell_services.proofs.AlsoLaws.{open_loss}
use Rattle.cell_services.proofs.others.loss_told.Goals as goal

pub returns-in-Some : goal.returns-in-Some
returns-in-Some c =
    IfOk-weaker c.lost_told.result _ _ (λ clients reach.
    open_loss c.args.semaphores.now c.args.now c.args.part.now.row _ _ clients.items (sym c.negotiated.ensures ∙ ap option_copied c.in-Some.is) c.client.ensures reach)
    c.lost_told.ensures
