use Rattle.pdu_assoc.proofs.Numbered.{error_fits}
use Rattle.pdu_assoc.proofs.errors.errors_are_of_the_form.Goals as goal

pub returns : goal.returns
returns c = error_fits
