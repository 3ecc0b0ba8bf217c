use Rattle.std.proofs.Common.{◌∙◌, ap, arith, length-set, true}
use Rattle.mms_journal.specs.Tags.{slot_of}
use Rattle.mms_journal.proofs.Tagged.{slots_next}
use Rattle.mms_journal.proofs.tags.slots_of.Goals as goal

pub loop-text-preserved : goal.loop-text-preserved
loop-text-preserved c = (
  slots_next c.args.texts.now c.loop-text.text-index c.text-item.result c.loop-text.slots c.slot_of.result c.loop-text-test.true c.text-item.is
      (c.slot_of.ensures.slot ∙ ap slot_of c.as_slice.ensures) (omega (arith, c.slot_of.ensures.within, c.loop-text.invariant.1)) c.loop-text.invariant.0,
  length-set c.loop-text.slots c.slot_of.result true ∙ c.loop-text.invariant.1,
)
