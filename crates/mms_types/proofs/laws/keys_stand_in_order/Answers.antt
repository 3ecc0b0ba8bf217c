use Rattle.mms_types.specs.KeyLaws.{keys_total}
use Rattle.mms_types.proofs.Precedence.{key_order_in_words, key_order_tells_apart, key_eq_tells}
use Rattle.mms_types.proofs.laws.keys_stand_in_order.Goals as goal

pub returns-clause-total : goal.returns-clause-total
returns-clause-total c = keys_total

pub returns-clause-before : goal.returns-clause-before
returns-clause-before c = key_order_in_words c.args.a.now c.args.b.now

pub returns-clause-same : goal.returns-clause-same
returns-clause-same c = key_order_tells_apart c.args.a.now c.args.b.now

pub returns-clause-equal : goal.returns-clause-equal
returns-clause-equal c = key_eq_tells c.args.a.now c.args.b.now
