use Rattle.mms_pdu.proofs.SentAgain.{sent_one, sent_whole, sent_small}
use Rattle.mms_pdu.proofs.laws.spells_each_sent.Goals as goal

pub returns-clause-one : goal.returns-clause-one
returns-clause-one c = sent_one

pub returns-clause-whole : goal.returns-clause-whole
returns-clause-whole c = sent_whole

pub returns-clause-invoke : goal.returns-clause-invoke
returns-clause-invoke c = sent_small
