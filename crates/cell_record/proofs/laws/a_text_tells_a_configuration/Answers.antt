use Rattle.cell_record.proofs.OneHistory.{told_holds}
use Rattle.cell_record.proofs.laws.a_text_tells_a_configuration.Goals as goal

pub returns : goal.returns
returns c = λ text configured told. told_holds text configured told
