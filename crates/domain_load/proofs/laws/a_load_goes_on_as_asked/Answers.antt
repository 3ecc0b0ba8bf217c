use Rattle.domain_load.proofs.Outcomes.{loads, ready, reply_gone, reply_others}
use Rattle.domain_load.proofs.laws.a_load_goes_on_as_asked.Goals as goal

pub returns-clause-loads : goal.returns-clause-loads
returns-clause-loads c = loads

pub returns-clause-ready : goal.returns-clause-ready
returns-clause-ready c = ready

pub returns-clause-gone : goal.returns-clause-gone
returns-clause-gone c = reply_gone

pub returns-clause-others : goal.returns-clause-others
returns-clause-others c = reply_others
