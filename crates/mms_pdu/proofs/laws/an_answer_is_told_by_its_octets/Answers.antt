use Rattle.mms_pdu.proofs.AnswerTold.{answers_by_octets, octets_answer, answer_alike}
use Rattle.mms_pdu.proofs.laws.an_answer_is_told_by_its_octets.Goals as goal

pub returns-clause-octets : goal.returns-clause-octets
returns-clause-octets c = λ invoke p small. (answers_by_octets invoke p small, octets_answer invoke p small)

pub returns-clause-alike : goal.returns-clause-alike
returns-clause-alike c = answer_alike
