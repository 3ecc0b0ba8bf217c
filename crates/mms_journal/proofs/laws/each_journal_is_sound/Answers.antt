use Rattle.std.proofs.Common.{◌∙◌, ap, slice_get, sym}
use Rattle.mms_journal.proofs.Sound.{one_more}
use Rattle.mms_journal.proofs.laws.each_journal_is_sound.Goals as goal

pub loop-place-preserved : goal.loop-place-preserved
loop-place-preserved c = (
  one_more c.args.journals.now c.loop-place.place (c.in-Some.field-0-0.now, c.in-Some.journal.now)
      (ap (λ rows. slice_get rows c.loop-place.place) (sym c.journals.view_is) ∙ c.in-Some.ensures.row) c.journal_is_sound.ensures c.loop-place.invariant.0,
  c.loop-place.invariant.1,
)
