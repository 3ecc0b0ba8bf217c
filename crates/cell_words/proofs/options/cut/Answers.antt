use Rattle.std.proofs.Common.{Some, None, arith}
use Rattle.std.proofs.lemmas.Str.Pattern.{split_once_first}
use Rattle.cell_words.specs.Words.{texts}
use Rattle.cell_words.proofs.Counts.{cut_joined, lacks_equals}
use Rattle.cell_words.proofs.options.cut.Goals as goal

pub returns-in-Some : goal.returns-in-Some
returns-in-Some c =
    let k = split_once_first 61 c.args.word.now (Some (c.in-Some.name, c.in-Some.text)) c.in-Some.ensures.cases (omega arith) in
    cut_joined c.args.word.now c.in-Some.name.now c.in-Some.text.now (texts c.args.behind.now) k.0 k.1 k.2

pub returns-in-None : goal.returns-in-None
returns-in-None c = c.parted.ensures (lacks_equals c.args.word.now (split_once_first 61 c.args.word.now None c.in-None.ensures.cases (omega arith)))
