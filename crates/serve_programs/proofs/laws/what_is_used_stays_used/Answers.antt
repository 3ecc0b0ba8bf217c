use Rattle.serve_programs.proofs.UsedLaws.{commands_keep, create_keeps, delete_keeps, ends_keep, none_used, resume_keeps, start_keeps}
use Rattle.serve_programs.proofs.laws.what_is_used_stays_used.Goals as goal

pub returns-clause-none : goal.returns-clause-none
returns-clause-none c = none_used

pub returns-clause-made : goal.returns-clause-made
returns-clause-made c = create_keeps

pub returns-clause-deleted : goal.returns-clause-deleted
returns-clause-deleted c = delete_keeps

pub returns-clause-commanded : goal.returns-clause-commanded
returns-clause-commanded c = commands_keep

pub returns-clause-started : goal.returns-clause-started
returns-clause-started c = start_keeps

pub returns-clause-resumed : goal.returns-clause-resumed
returns-clause-resumed c = resume_keeps

pub returns-clause-ended : goal.returns-clause-ended
returns-clause-ended c = ends_keep
