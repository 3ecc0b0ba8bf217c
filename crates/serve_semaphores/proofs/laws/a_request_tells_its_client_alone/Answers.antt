use Rattle.serve_semaphores.proofs.OthersLaws.{told_alone, told_to}
use Rattle.serve_semaphores.proofs.laws.a_request_tells_its_client_alone.Goals as goal

pub returns-clause-alone : goal.returns-clause-alone
returns-clause-alone c = told_alone

pub returns-clause-granted : goal.returns-clause-granted
returns-clause-granted c = told_to
