use Rattle.mms_journal.proofs.Fitting.{entry_fits}
use Rattle.mms_journal.proofs.formed.is_formed.Goals as goal

pub returns-clause-entry : goal.returns-clause-entry
returns-clause-entry c = λ t. entry_fits c.args.entry.now (c.is_content.ensures.content t)
