use Rattle.std.proofs.Common.{arith}
use Rattle.pool_sem.proofs.Marked.{clear-bit}
use Rattle.pool_sem.proofs.marks.Marks.clear.Goals as goal

pub returns : goal.returns
returns c = λ u lt. clear-bit c.args.self.now.had c.args.token u (let l = c.requires in omega arith)
