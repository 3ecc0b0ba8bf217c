use Rattle.cell_laws.proofs.Recorded.{entry_goes, entry_stays}
use Rattle.cell_laws.proofs.journals.an_entry_stays_as_it_was_written.Goals as goal

pub returns-clause-stays : goal.returns-clause-stays
returns-clause-stays c = entry_stays

pub returns-clause-goes : goal.returns-clause-goes
returns-clause-goes c = entry_goes
