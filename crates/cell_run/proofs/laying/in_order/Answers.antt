use Rattle.std.proofs.Common.{◌++◌, ◌∷◌, [], ap, sym, ◌∙◌, append_assoc}
use Rattle.cell_run.proofs.Laid.{filled_more, filled_none}
use Rattle.cell_run.proofs.laying.in_order.Goals as goal

pub loop-slot-preserved-in-Continue-branch-2 : goal.loop-slot-preserved-in-Continue-branch-2
loop-slot-preserved-in-Continue-branch-2 c =
    let i = c.loop-slot.invariant in
    let s = c.in-Some.ensures.steps in
    record {
      slots = i.slots ∙ ap (λ l. c.loop-slot.yielded ++ l) s.0 ∙ sym (append_assoc c.loop-slot.yielded (c.in-Some.slot ∷ []) _);
      events = c.in_ok-push.ensures.items ∙ ap (λ l. l ++ c.in-Some-slot.event ∷ []) i.events ∙ sym (filled_more c.loop-slot.yielded c.in-Some.slot c.in-Some-slot.event c.in-Some-slot.is);
    }

pub loop-slot-preserved : goal.loop-slot-preserved
loop-slot-preserved c =
    let i = c.loop-slot.invariant in
    let s = c.in-Some.ensures.steps in
    record {
      slots = i.slots ∙ ap (λ l. c.loop-slot.yielded ++ l) s.0 ∙ sym (append_assoc c.loop-slot.yielded (c.in-Some.slot ∷ []) _);
      events = i.events ∙ sym (filled_none c.loop-slot.yielded c.in-Some.slot c.in_default.is);
    }
