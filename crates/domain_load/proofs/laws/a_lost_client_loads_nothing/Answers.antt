use Rattle.domain_load.proofs.Outcomes.{lost_none, lost_others}
use Rattle.domain_load.proofs.laws.a_lost_client_loads_nothing.Goals as goal

pub returns-clause-none : goal.returns-clause-none
returns-clause-none c = lost_none

pub returns-clause-others : goal.returns-clause-others
returns-clause-others c = lost_others
