use Rattle.pool_sem.proofs.Serving.{free-unwanted}
use Rattle.pool_sem.proofs.laws.no_free_token_is_wanted.Goals as goal

pub returns : goal.returns
returns c = free-unwanted
