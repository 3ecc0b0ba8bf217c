use Rattle.std.proofs.Common.{◌≡◌, ◌∙◌, Some, ap, slice_get, sym}
use Rattle.mms_types.specs.declared.key.Key.{Key}
use Rattle.event_cond.specs.declared.condition.Condition.{Condition}
use Rattle.event_cond.proofs.Passing.{none_due_more, one_due}
use Rattle.event_cond.proofs.conditions.Conditions.is_due.Goals as goal

pub returns-then-is_due : goal.returns-then-is_due
returns-then-is_due c =
    let row : Key × Condition = (c.in-Some.field-0-0.now, c.in-Some.kept.now) in
    let at : slice_get c.args.self.now c.loop-place.place ≡ Some row = ap (λ rs. slice_get rs c.loop-place.place) (sym c.self.view_is) ∙ c.in-Some.ensures.row in
    sym (one_due c.args.until c.args.self.now c.loop-place.place row at (sym c.is_due.ensures ∙ c.if-is_due.true))

pub loop-place-preserved : goal.loop-place-preserved
loop-place-preserved c =
    let row : Key × Condition = (c.in-Some.field-0-0.now, c.in-Some.kept.now) in
    let at : slice_get c.args.self.now c.loop-place.place ≡ Some row = ap (λ rs. slice_get rs c.loop-place.place) (sym c.self.view_is) ∙ c.in-Some.ensures.row in
    record {
      none = none_due_more c.args.until c.args.self.now c.loop-place.place row at c.loop-place.invariant.none (sym c.is_due.ensures ∙ c.if-is_due.false);
      end = c.loop-place.invariant.end;
    }
