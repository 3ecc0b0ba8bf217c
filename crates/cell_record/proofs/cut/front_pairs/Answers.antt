use Rattle.std.proofs.Common.{arith, ◌∙◌, length-set}
use Rattle.cell_record.proofs.Plain.{one_pair_more}
use Rattle.cell_record.proofs.cut.front_pairs.Goals as goal

pub loop-count-preserved : goal.loop-count-preserved
loop-count-preserved c =
    let whole = c.is_broken.ensures.whole c.if-is_broken.false in
    let more = one_pair_more c.args.text.now c.loop-count.to c.loop-count.count c.nibble-high.result c.nibble-low.result 0 (omega (arith, c.loop-count-test.true, c.min-most.ensures)) (omega (arith, c.loop-count-test.true, c.min-most.ensures, c.loop-count.invariant.size))
    c.nibble-high.ensures.value c.nibble-low.ensures.value whole.0 whole.1 c.loop-count.invariant.hex c.loop-count.invariant.octets in
    record {
      within = omega (arith, c.loop-count-test.true);
      size = length-set _ _ _ ∙ c.loop-count.invariant.size;
      hex = more.0;
      octets = more.1;
    }
