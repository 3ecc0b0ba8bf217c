use Rattle.std.proofs.Common.{arith, append_assoc}
use Rattle.ber_core.proofs.Numbers.{digits_step}
use Rattle.ber_core.proofs.Written.{digits_longer}
use Rattle.ber_core.proofs.writer.+put_digits.Goals as goal

pub put-requires-2 : goal.put-requires-2
put-requires-2 t c = record { room = omega (arith, digits_longer 256 c.args.most c.args.n (omega arith) (omega arith)) }

pub returns-clause-end : goal.returns-clause-end
returns-clause-end t c = omega (arith, digits_longer 256 c.args.most c.args.n (omega arith) (omega arith))

pub returns-clause-front : goal.returns-clause-front
returns-clause-front t c = rw (c.put-2.ensures.front, c.put_digits-next.ensures.front, digits_step 256 c.args.most c.args.n (omega arith) (omega arith)) (simp append_assoc)
