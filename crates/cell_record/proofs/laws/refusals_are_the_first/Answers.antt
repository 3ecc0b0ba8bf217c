use Rattle.cell_record.proofs.FirstRefused.{is_refused, refused_is}
use Rattle.cell_record.proofs.laws.refusals_are_the_first.Goals as goal

pub returns : goal.returns
returns c = λ text e. (is_refused text e, refused_is text e)
