use Rattle.std.proofs.Common.{◌∙◌, ap, slice_get, sym}
use Rattle.event_cond.proofs.Sound.{one_more}
use Rattle.event_cond.proofs.laws.each_condition_is_sound.Goals as goal

pub loop-place-preserved : goal.loop-place-preserved
loop-place-preserved c = (
  one_more c.args.conditions.now c.loop-place.place (c.in-Some.field-0-0.now, c.in-Some.kept.now)
      (ap (λ rows. slice_get rows c.loop-place.place) (sym c.conditions.view_is) ∙ c.in-Some.ensures.row) c.condition_is_sound.ensures c.loop-place.invariant.0,
  c.loop-place.invariant.1,
)
