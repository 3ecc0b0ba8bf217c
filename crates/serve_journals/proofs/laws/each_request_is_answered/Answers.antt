use Rattle.serve_journals.proofs.AnswerLaws.{answers_or_waits, journals_alone}
use Rattle.serve_journals.proofs.laws.each_request_is_answered.Goals as goal

pub returns-clause-answered : goal.returns-clause-answered
returns-clause-answered c = answers_or_waits

pub returns-clause-alone : goal.returns-clause-alone
returns-clause-alone c = journals_alone
