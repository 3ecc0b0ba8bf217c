use Rattle.std.proofs.Common.{sym, subst}
use Rattle.cell_words.specs.Read.{AreFour, given}
use Rattle.cell_words.specs.Words.{texts}
use Rattle.cell_words.proofs.Counts.{not_more, not_some}
use Rattle.cell_words.proofs.options.four_options.Goals as goal

pub returns-in_err-first : goal.returns-in_err-first
returns-in_err-first c = subst (AreFour (texts c.args.words.now)) (sym c.from_residual.ensures) (not_some 3 (texts c.args.words.now) c.in_err-first.ensures)

pub returns-in_err-third : goal.returns-in_err-third
returns-in_err-third c = subst (AreFour (texts c.args.words.now)) (sym c.from_residual-in_err-third.ensures)
    (not_more 3 (given c.in_ok-first.first) (texts c.args.words.now) (texts c.in_ok-first.rest.now) c.in_ok-first.ensures
    (not_more 2 (given c.in_ok-second.second) (texts c.in_ok-first.rest.now) (texts c.in_ok-second.rest.now) c.in_ok-second.ensures
    (not_some 1 (texts c.in_ok-second.rest.now) c.in_err-third.ensures)))
