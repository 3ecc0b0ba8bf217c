use Rattle.domain_load.proofs.Outcomes.{gone, gone_others}
use Rattle.domain_load.proofs.laws.a_deleted_domain_is_gone.Goals as goal

pub returns-clause-gone : goal.returns-clause-gone
returns-clause-gone c = gone

pub returns-clause-others : goal.returns-clause-others
returns-clause-others c = gone_others
