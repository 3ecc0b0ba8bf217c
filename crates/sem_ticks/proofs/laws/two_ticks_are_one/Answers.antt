use Rattle.sem_ticks.proofs.Twice.{twice}
use Rattle.sem_ticks.proofs.laws.two_ticks_are_one.Goals as goal

pub returns : goal.returns
returns c = twice
