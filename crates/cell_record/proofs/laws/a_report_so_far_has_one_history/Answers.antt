use Rattle.cell_record.proofs.OneHistory.{one_history_so_far}
use Rattle.cell_record.proofs.laws.a_report_so_far_has_one_history.Goals as goal

pub returns : goal.returns
returns c = λ said text configured done rest told read bodies others i j e. one_history_so_far said text configured done rest bodies others told read i j e
