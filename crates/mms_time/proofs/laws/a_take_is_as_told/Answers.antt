use Rattle.mms_time.proofs.Told.{pool_take_told, take_told}
use Rattle.mms_time.proofs.laws.a_take_is_as_told.Goals as goal

pub returns-clause-tokens : goal.returns-clause-tokens
returns-clause-tokens c = take_told

pub returns-clause-pools : goal.returns-clause-pools
returns-clause-pools c = pool_take_told
