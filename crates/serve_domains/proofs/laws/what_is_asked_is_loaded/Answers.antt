use Rattle.serve_domains.proofs.LoadLaws.{begins_asked, none_loaded, replied_asked, row_is_loaded}
use Rattle.serve_domains.proofs.laws.what_is_asked_is_loaded.Goals as goal

pub returns-clause-none : goal.returns-clause-none
returns-clause-none c = none_loaded

pub returns-clause-begins : goal.returns-clause-begins
returns-clause-begins c = begins_asked

pub returns-clause-replies : goal.returns-clause-replies
returns-clause-replies c = replied_asked

pub returns-clause-answers : goal.returns-clause-answers
returns-clause-answers c = row_is_loaded
