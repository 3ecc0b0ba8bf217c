use Rattle.std.proofs.Common.{arith, ◌∙◌}
use Rattle.ber_core.proofs.Written.{drop_later}
use Rattle.ber_core.proofs.writer.put_length.Goals as goal

pub returns-else-n-lt128-clause-rest : goal.returns-else-n-lt128-clause-rest
returns-else-n-lt128-clause-rest c = c.put_digits.ensures.rest ∙ drop_later c.put-next.result c.put_digits.result c.put-next.new.bytes.items c.args.bytes.now.items (omega arith) c.put-next.ensures.rest
