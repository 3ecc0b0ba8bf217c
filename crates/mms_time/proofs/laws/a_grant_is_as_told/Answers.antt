use Rattle.mms_time.proofs.Told.{grant_told, pool_grant_told}
use Rattle.mms_time.proofs.laws.a_grant_is_as_told.Goals as goal

pub returns-clause-tokens : goal.returns-clause-tokens
returns-clause-tokens c = grant_told

pub returns-clause-pools : goal.returns-clause-pools
returns-clause-pools c = pool_grant_told
