use Rattle.std.proofs.Common.{rules}
use Rattle.cell_words.proofs.Numbers.{number_wide}
use Rattle.cell_words.proofs.words.number.Goals as goal

pub returns-in-Err : goal.returns-in-Err
returns-in-Err c = number_wide c.args.least c.args.most c.args.text.now (search rules) (search rules) (search rules) c.in-Err.ensures.value.0
