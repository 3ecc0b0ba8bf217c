use Rattle.mms_pdu.proofs.Whole.{heard_again}
use Rattle.mms_pdu.proofs.FormOf.{heard_of}
use Rattle.mms_pdu.proofs.Invokes.{request_heard, modified_heard}
use Rattle.mms_pdu.proofs.laws.hears_each_form.Goals as goal

pub returns-clause-heard : goal.returns-clause-heard
returns-clause-heard c = heard_again

pub returns-clause-only : goal.returns-clause-only
returns-clause-only c = heard_of

pub returns-clause-invoke : goal.returns-clause-invoke
returns-clause-invoke c = request_heard

pub returns-clause-modified : goal.returns-clause-modified
returns-clause-modified c = modified_heard
