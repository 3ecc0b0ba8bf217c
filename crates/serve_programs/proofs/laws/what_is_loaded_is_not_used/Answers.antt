use Rattle.serve_programs.proofs.LoadedLaws.{begins_keeps, lost_keeps, reply_keeps, without_keeps}
use Rattle.serve_programs.proofs.laws.what_is_loaded_is_not_used.Goals as goal

pub returns-clause-begins : goal.returns-clause-begins
returns-clause-begins c = begins_keeps

pub returns-clause-replies : goal.returns-clause-replies
returns-clause-replies c = reply_keeps

pub returns-clause-deleted : goal.returns-clause-deleted
returns-clause-deleted c = without_keeps

pub returns-clause-lost : goal.returns-clause-lost
returns-clause-lost c = lost_keeps
