use Rattle.pool_sem.proofs.Serving.{had-once}
use Rattle.pool_sem.proofs.laws.a_token_is_had_once.Goals as goal

pub returns : goal.returns
returns c = had-once
