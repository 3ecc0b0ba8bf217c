use Rattle.std.proofs.Common.{◌∙◌}
use Rattle.sem_ticks.proofs.Unowned.{on_err_then, some_owned}
use Rattle.sem_ticks.proofs.granted.lose_told.Goals as goal

pub returns-clause-wants : goal.returns-clause-wants
returns-clause-wants c =
    on_err_then c.all_granted.result c.all_granted.ensures.wants
    (some_owned c.args.client c.args.now c.args.semaphores.now c.deref.result.now (c.deref.ensures.value ∙ c.in_ok-grants.ensures.told))
