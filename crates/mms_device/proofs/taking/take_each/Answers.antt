use Rattle.std.proofs.Common.{◌≡◌, ◌<◌, ◌++◌, ◌∷◌, ℕ, [], List, length, ap, subst, sym, ◌∙◌, append_assoc}
use Rattle.step_parts.specs.Needs.{is_held}
use Rattle.mms_device.specs.Taken.{HasTaken}
use Rattle.mms_device.proofs.Growing.{taken_more, is_next, held_next}
use Rattle.mms_device.proofs.taking.take_each.Goals as goal

pub take-requires-clause-part : goal.take-requires-clause-part
take-requires-clause-part g c =
    let all = c.loop-part.invariant.all ∙ ap (λ (l : List ℕ). c.loop-part.yielded ++ l) c.in-Some.ensures.steps in
    subst (λ (p : ℕ). p < length c.args.table.now.opening) (sym c.from.ensures)
    (c.requires.parts c.in-Some.part (is_next c.args.parts.now c.loop-part.yielded c.next.new.self c.in-Some.part all))

pub loop-part-preserved : goal.loop-part-preserved
loop-part-preserved g c =
    let all = c.loop-part.invariant.all ∙ ap (λ (l : List ℕ). c.loop-part.yielded ++ l) c.in-Some.ensures.steps in
    let took = subst (λ (p : ℕ). HasTaken (p ∷ []) c.loop-part.pass c.take.new.pass) c.from.ensures c.take.ensures.taken in
    let here = subst (λ (p : ℕ). is_held c.take.new.pass.taken p ≡ Rattle.std.specs.Prelude.true) c.from.ensures c.in_ok-take.ensures.held.0 in record {
      taken = taken_more c.args.parts.now c.in-Some.part c.args.pass.now c.loop-part.pass c.take.new.pass
          (is_next c.args.parts.now c.loop-part.yielded c.next.new.self c.in-Some.part all) c.loop-part.invariant.taken took;
      held = held_next (c.in-Some.part ∷ []) c.loop-part.pass.taken c.take.new.pass.taken c.loop-part.yielded c.in-Some.part took.grown c.loop-part.invariant.held here;
      lost = c.in_ok-take.ensures.held.1 ∙ c.loop-part.invariant.lost;
      all = all ∙ sym (append_assoc c.loop-part.yielded (c.in-Some.part ∷ []) c.next.new.self);
    }
