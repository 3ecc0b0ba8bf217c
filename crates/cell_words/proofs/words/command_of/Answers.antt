use Rattle.std.proofs.Common.{rules, ◌∙◌, subst, string_bytes}
use Rattle.cell_words.specs.Parser.{Answers}
use Rattle.cell_words.proofs.Asked.{none_reads, some_reads}
use Rattle.cell_words.proofs.words.command_of.Goals as goal

pub returns-in-Ok-Some : goal.returns-in-Ok-Some
returns-in-Ok-Some c = c.asked.ensures
    ∙ some_reads (λ w. string_bytes w) c.args.words.now c.in-Ok-Some.matches (search rules) (subst (Answers _) c.in-Ok-Some.field-0-is c.in-Ok-Some.ensures)

pub returns-in-Ok-None : goal.returns-in-Ok-None
returns-in-Ok-None c = none_reads (λ w. string_bytes w) c.args.words.now (search rules) (subst (Answers _) c.in-Ok-None.field-0-is c.in-Ok-None.ensures)
