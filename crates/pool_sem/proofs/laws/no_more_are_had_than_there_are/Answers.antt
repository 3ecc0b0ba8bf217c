use Rattle.pool_sem.proofs.Bounding.{held-most}
use Rattle.pool_sem.proofs.laws.no_more_are_had_than_there_are.Goals as goal

pub returns : goal.returns
returns c = held-most
