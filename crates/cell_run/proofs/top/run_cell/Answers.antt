use Rattle.cell_run.proofs.Endings.{completes_with, counted_with}
use Rattle.cell_run.proofs.top.run_cell.Goals as goal

pub returns-clause-complete : goal.returns-clause-complete
returns-clause-complete g c = λ command reads is. completes_with command _ c.serve.result c.code.result _ _ _ _ reads c.code.ensures is c.serve.ensures.ends

pub returns-clause-counted : goal.returns-clause-counted
returns-clause-counted g c = λ seed clients rounds workers is no. counted_with seed clients rounds workers _ c.serve.result c.code.result _ _ _ _ c.code.ensures is c.serve.ensures.ends no
