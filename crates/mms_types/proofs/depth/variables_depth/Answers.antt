use Rattle.std.proofs.Common.{arith}
use Rattle.mms_types.specs.Depths.{variable_depth}
use Rattle.mms_types.proofs.Greatest.{greatest_next}
use Rattle.mms_types.proofs.depth.variables_depth.Goals as goal

pub loop-variable-preserved : goal.loop-variable-preserved
loop-variable-preserved c =
    let next = greatest_next variable_depth c.args.variables.now c.loop-variable.variable-index c.variable-item.result c.loop-variable-test.true c.variable-item.is in
    (omega (arith, next, c.greater-found.ensures, c.loop-variable.invariant.0, c.depth.ensures.depth), omega (arith, c.greater-found.ensures, c.loop-variable.invariant.1, c.depth.ensures.most))
