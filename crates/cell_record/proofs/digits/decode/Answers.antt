use Rattle.std.proofs.Common.{arith, length-set, ◌∙◌}
use Rattle.cell_record.proofs.OneFurther.{decode_more}
use Rattle.cell_record.proofs.digits.decode.Goals as goal

pub loop-i-preserved : goal.loop-i-preserved
loop-i-preserved c = record {
  size = length-set _ _ _ ∙ c.loop-i.invariant.size;
  rest = decode_more c.args.text.now c.loop-i.to c.loop-i.i c.loop-i.seen c.nibble-high.result c.nibble-low.result 0 _ (omega (arith, c.requires.pairs, c.loop-i-test.true)) (omega (arith, c.loop-i.invariant.size, c.requires.room, c.loop-i-test.true)) c.nibble-high.ensures.value c.nibble-low.ensures.value c.loop-i.invariant.rest;
}
