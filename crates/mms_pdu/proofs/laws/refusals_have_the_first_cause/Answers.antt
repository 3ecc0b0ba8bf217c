use Rattle.pdu_names.specs.Editions.{lengths_of}
use Rattle.mms_pdu.proofs.FirstCause.{heard_refused, memory_no_cause}
use Rattle.mms_pdu.proofs.laws.refusals_have_the_first_cause.Goals as goal

pub returns-clause-cause : goal.returns-clause-cause
returns-clause-cause c = heard_refused

pub returns-clause-memory : goal.returns-clause-memory
returns-clause-memory c = λ edition octets. memory_no_cause (lengths_of edition) edition octets
