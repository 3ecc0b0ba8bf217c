use Rattle.std.proofs.Common.{◌∙◌, sym}
use Rattle.cell_words.specs.Words.{texts}
use Rattle.cell_words.proofs.Asked.{stress_not}
use Rattle.cell_words.proofs.words.stress_form.Goals as goal

pub returns-in_err-first : goal.returns-in_err-first
returns-in_err-first c = c.from_residual.ensures ∙ sym (stress_not (texts c.args.rest.now) c.in_err-first.ensures)
