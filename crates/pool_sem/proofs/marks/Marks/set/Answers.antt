use Rattle.std.proofs.Common.{arith}
use Rattle.pool_sem.proofs.Marked.{set-bit}
use Rattle.pool_sem.proofs.marks.Marks.set.Goals as goal

pub returns : goal.returns
returns c = λ u lt. set-bit c.args.self.now.had c.args.token u (let l = c.requires in omega arith)
