use Rattle.std.proofs.Common.{◌∙◌, ap}
use Rattle.mms_journal.specs.Entries.{is_among}
use Rattle.mms_journal.specs.Tags.{tags_in}
use Rattle.mms_journal.proofs.Tagged.{listed_next}
use Rattle.mms_journal.proofs.tags.set_of.Goals as goal

pub loop-text-preserved : goal.loop-text-preserved
loop-text-preserved c = λ tag.
    ap (λ keys. is_among (tags_in keys) tag) c.in_ok-insert.ensures.keys
    ∙ listed_next c.args.texts.now c.loop-text.text-index c.text-item.result c.loop-text.set.keys c.as_slice.result c.loop-text-test.true c.text-item.is c.as_slice.ensures c.loop-text.invariant tag
