use Rattle.cell_laws.proofs.ReadOn.{reads_on}
use Rattle.cell_laws.proofs.journals.a_journal_is_read_on_from_an_entry.Goals as goal

pub returns : goal.returns
returns c = reads_on
