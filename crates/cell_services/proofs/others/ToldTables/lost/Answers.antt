use Rattle.std.proofs.lemmas.Result.{IfOk-weaker}
use Rattle.cell_services.proofs.others.ToldTables.lost.Goals as goal

pub returns : goal.returns
returns c = IfOk-weaker c.lost_told.result _ _ (λ clients reach t shown. reach t shown.semaphores shown.now) c.lost_told.ensures
