use Rattle.std.proofs.Common.{append_assoc, arith}
use Rattle.std.proofs.lemmas.Grind.{common_steps}
use Rattle.ber_core.proofs.Written.{integer_element}
use Rattle.ber_core.proofs.writer.append_any_integer.Goals as goal

pub returns-clause-ok : goal.returns-clause-ok
returns-clause-ok c = grind (arith, common_steps, append_assoc, integer_element c.args.tag c.args.n)
