use Rattle.std.proofs.Common.{rules}
use Rattle.std.proofs.lemmas.Str.Pattern.{starts_text}
use Rattle.cell_words.proofs.Asked.{named_by}
use Rattle.cell_words.proofs.words.names.Goals as goal

pub returns-else-eq : goal.returns-else-eq
returns-else-eq c = named_by c.args.option.now c.args.joined.now c.args.word.now c.starts_with.result c.requires (search rules)
    (starts_text c.starts_with.result c.args.joined.now c.args.word.now c.starts_with.ensures.cases)
