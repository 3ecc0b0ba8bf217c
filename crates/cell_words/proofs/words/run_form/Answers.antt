use Rattle.std.proofs.Common.{◌∙◌, sym}
use Rattle.cell_words.specs.Words.{texts}
use Rattle.cell_words.proofs.Asked.{run_not}
use Rattle.cell_words.proofs.words.run_form.Goals as goal

pub returns-in_err-one_option : goal.returns-in_err-one_option
returns-in_err-one_option c = c.from_residual.ensures ∙ sym (run_not (texts c.args.rest.now) c.in_err-one_option.ensures)
