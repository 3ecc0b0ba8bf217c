use Rattle.std.proofs.Common.{arith}
use Rattle.mms_types.specs.Depths.{entry_depth}
use Rattle.mms_types.proofs.Greatest.{greatest_next}
use Rattle.mms_types.proofs.depth.entries_depth.Goals as goal

pub loop-entry-preserved : goal.loop-entry-preserved
loop-entry-preserved c =
    let next = greatest_next entry_depth c.args.entries.now c.loop-entry.entry-index c.entry-item.result c.loop-entry-test.true c.entry-item.is in
    (omega (arith, next, c.greater-found.ensures, c.loop-entry.invariant.0, c.entry_depth.ensures.depth), omega (arith, c.greater-found.ensures, c.loop-entry.invariant.1, c.entry_depth.ensures.most))
