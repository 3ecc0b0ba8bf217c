use Rattle.mms_types.specs.Equal.{data_decide, shapes_decide}
use Rattle.mms_types.proofs.laws.equal_is_the_same.Goals as goal

pub returns-clause-values : goal.returns-clause-values
returns-clause-values c = data_decide c.args.x.now c.args.y.now

pub returns-clause-types : goal.returns-clause-types
returns-clause-types c = shapes_decide c.args.s.now c.args.t.now
