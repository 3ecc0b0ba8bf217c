use Rattle.serve_domains.proofs.LoadLaws.{begins_elsewhere, deleted, lost, lost_elsewhere, replied_elsewhere, unused_loads, used_loads}
use Rattle.serve_domains.proofs.laws.what_is_asked_stays_loaded.Goals as goal

pub returns-clause-begins : goal.returns-clause-begins
returns-clause-begins c = begins_elsewhere

pub returns-clause-replies : goal.returns-clause-replies
returns-clause-replies c = replied_elsewhere

pub returns-clause-deleted : goal.returns-clause-deleted
returns-clause-deleted c = deleted

pub returns-clause-lost : goal.returns-clause-lost
returns-clause-lost c = lost

pub returns-clause-others : goal.returns-clause-others
returns-clause-others c = lost_elsewhere

pub returns-clause-used : goal.returns-clause-used
returns-clause-used c = used_loads

pub returns-clause-unused : goal.returns-clause-unused
returns-clause-unused c = unused_loads
