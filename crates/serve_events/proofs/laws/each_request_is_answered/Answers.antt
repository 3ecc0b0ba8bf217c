use Rattle.serve_events.specs.AnswerLaws.{answers_or_waits, nothing_is_asked, others_alone, told_are_enrolled}
use Rattle.serve_events.proofs.laws.each_request_is_answered.Goals as goal

pub returns-clause-answered : goal.returns-clause-answered
returns-clause-answered c = answers_or_waits

pub returns-clause-unasked : goal.returns-clause-unasked
returns-clause-unasked c = nothing_is_asked

pub returns-clause-enrolled : goal.returns-clause-enrolled
returns-clause-enrolled c = told_are_enrolled

pub returns-clause-alone : goal.returns-clause-alone
returns-clause-alone c = others_alone
