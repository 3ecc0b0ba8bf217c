use Rattle.std.proofs.lemmas.Result.{IfOk-weaker}
use Rattle.cell_services.proofs.AlsoLaws.{aborts_lost, own_loss}
use Rattle.cell_services.proofs.others.also_told.Goals as goal

pub returns-in-Aborts : goal.returns-in-Aborts
returns-in-Aborts c =
    IfOk-weaker c.lost.result _ _ (λ clients reach t shown.
    aborts_lost t c.args.part.now.row c.args.found.now clients.items c.in-Aborts.is (own_loss t c.args.part.now.row.client _ clients.items c.client.ensures (reach t shown)))
    c.lost.ensures
