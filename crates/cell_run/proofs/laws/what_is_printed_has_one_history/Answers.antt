use Rattle.cell_run.proofs.OneHistory.{printed_one, cut_one}
use Rattle.cell_run.proofs.laws.what_is_printed_has_one_history.Goals as goal

pub returns-clause-printed : goal.returns-clause-printed
returns-clause-printed c = printed_one

pub returns-clause-cut : goal.returns-clause-cut
returns-clause-cut c = cut_one
