use Rattle.domain_load.proofs.Outcomes.{loaded_is}
use Rattle.domain_load.proofs.laws.a_loaded_domain_is_what_came.Goals as goal

pub returns : goal.returns
returns c = loaded_is
