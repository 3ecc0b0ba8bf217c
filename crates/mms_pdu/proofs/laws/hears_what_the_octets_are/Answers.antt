use Rattle.mms_pdu.proofs.KeptAs.{heard_is_kept}
use Rattle.mms_pdu.proofs.FirstCause.{refused_is_heard}
use Rattle.mms_pdu.proofs.laws.hears_what_the_octets_are.Goals as goal

pub returns-clause-kept : goal.returns-clause-kept
returns-clause-kept c = heard_is_kept

pub returns-clause-refused : goal.returns-clause-refused
returns-clause-refused c = λ lengths edition octets e fits. refused_is_heard lengths edition octets e fits
