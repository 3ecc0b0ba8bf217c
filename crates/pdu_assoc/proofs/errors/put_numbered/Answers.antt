use Rattle.std.proofs.Common.{rules, pos}
use Rattle.ber_forms.specs.Value.{number}
use Rattle.pdu_assoc.proofs.Numbered.{number_spelled, number_unspelled}
use Rattle.pdu_assoc.proofs.errors.put_numbered.Goals as goal

pub returns-then-is_one_of-clause-ok : goal.returns-then-is_one_of-clause-ok
returns-then-is_one_of-clause-ok c = rw (number_spelled c.args.first c.args.count c.args.alternative (number (pos c.args.code)) (search rules)) (search rules)

pub returns-else-is_one_of-clause-ok : goal.returns-else-is_one_of-clause-ok
returns-else-is_one_of-clause-ok c = rw (number_unspelled c.args.first c.args.count c.args.alternative (number (pos c.args.code)) (search rules)) (search rules)
