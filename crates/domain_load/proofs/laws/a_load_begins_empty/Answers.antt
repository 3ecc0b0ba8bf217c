use Rattle.domain_load.proofs.Outcomes.{begin_others, begins}
use Rattle.domain_load.proofs.laws.a_load_begins_empty.Goals as goal

pub returns-clause-begun : goal.returns-clause-begun
returns-clause-begun c = begins

pub returns-clause-others : goal.returns-clause-others
returns-clause-others c = begin_others
