use Rattle.std.proofs.Common.{rules, sym, subst, string_bytes}
use Rattle.cell_words.specs.Read.{AreOne, given}
use Rattle.cell_words.specs.Words.{texts}
use Rattle.cell_words.proofs.Counts.{not_empty, not_more, not_some}
use Rattle.cell_words.proofs.options.one_option.Goals as goal

pub returns-in_err-option : goal.returns-in_err-option
returns-in_err-option c = subst (AreOne (texts c.args.words.now)) (sym c.from_residual.ensures) (not_some 0 (texts c.args.words.now) c.in_err-option.ensures)

pub returns-in_default : goal.returns-in_default
returns-in_default c = not_more 0 (given c.in_ok-option.option) (texts c.args.words.now) (texts c.in_ok-option.rest.now) c.in_ok-option.ensures
    (not_empty (λ w. string_bytes w) c.in_ok-option.rest.now (search rules))
