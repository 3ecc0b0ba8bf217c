use Rattle.cell_record.proofs.OneHistory.{one_history}
use Rattle.cell_record.proofs.laws.a_report_has_one_history.Goals as goal

pub returns : goal.returns
returns c = λ said text configured phases read bodies others i j e. one_history said text configured phases bodies others read i j e
