use Rattle.std.proofs.Common.{arith}
use Rattle.ber_core.specs.Part.{part}
use Rattle.mms_journal.proofs.Walked.{cut_none, cut_some}
use Rattle.mms_journal.proofs.walking.contents_of.Goals as goal

pub returns-in-Ok-clause-contents : goal.returns-in-Ok-clause-contents
returns-in-Ok-clause-contents c = cut_some c.args.octets.now c.in-Ok.rest.now (part c.in-Ok.element) (omega arith) c.in-Ok.ensures.only

pub returns-in-Err-clause-contents : goal.returns-in-Err-clause-contents
returns-in-Err-clause-contents c = cut_none c.args.octets.now (omega arith) c.in-Err.ensures.only
