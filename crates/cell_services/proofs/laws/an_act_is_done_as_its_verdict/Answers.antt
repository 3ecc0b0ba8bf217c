use Rattle.cell_services.proofs.PlanLaws.{left_of, lost_of}
use Rattle.cell_services.proofs.laws.an_act_is_done_as_its_verdict.Goals as goal

pub returns-clause-heard : goal.returns-clause-heard
returns-clause-heard c = left_of

pub returns-clause-lost : goal.returns-clause-lost
returns-clause-lost c = lost_of
