use Rattle.cell_ticks.proofs.Ticked.{twice}
use Rattle.cell_ticks.proofs.laws.two_ticks_are_one.Goals as goal

pub returns : goal.returns
returns c = λ cells first later s sound le. twice cells first later le s sound
