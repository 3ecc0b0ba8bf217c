use Rattle.std.proofs.Common.{append_assoc, arith}
use Rattle.std.proofs.lemmas.Grind.{common_steps}
use Rattle.ber_core.proofs.Numbers.{digits_step}
use Rattle.ber_core.proofs.writer.+push_digits.Goals as goal

pub returns-clause-items : goal.returns-clause-items
returns-clause-items t c = grind (arith, common_steps, append_assoc, digits_step c.args.bound c.args.most c.args.n (omega arith) (omega arith))
