use Rattle.std.proofs.Common.{◌∙◌, All, ap, map, subst, sym}
use Rattle.mms_time.proofs.Unowned.{on_err}
use Rattle.sem_ticks.specs.Drafts.{IsPlaced}
use Rattle.sem_ticks.proofs.Made.{due_more, place_key, placed_more, some_due, undue_more}
use Rattle.sem_ticks.proofs.drafts.due_places.Goals as goal
use Rattle.sem_ticks.proofs.drafts.due_places.Goals.{then-is_due+in_ok-push, else-is_due}

pub returns-in_err-push-clause-wants : goal.returns-in_err-push-clause-wants
returns-in_err-push-clause-wants c =
    on_err c.from_residual.result
    (some_due c.args.until c.args.semaphores.now c.loop-place.place (c.in-Some.key.now, c.in-Some.row.now) c.in-Some.ensures.row (sym c.is_due.ensures ∙ c.if-is_due.true))

pub loop-place-preserved : goal.loop-place-preserved
loop-place-preserved c = elim c.if-is_due.branch [
  | then-is_due+in_ok-push w ↦ record {
    keys = ap (λ v. map place_key v.items) w.due-is
        ∙ due_more c.args.until c.args.semaphores.now c.loop-place.place c.in-Some.key c.in-Some.row.now c.loop-place.due.items w.push.new.self.items c.in-Some.ensures.row
        (sym c.is_due.ensures ∙ w.if-is_due.true) c.loop-place.invariant.keys w.in_ok-push.ensures.items;
    places = subst (λ v. All (IsPlaced c.args.semaphores.now) v.items) (sym w.due-is)
        (placed_more c.args.semaphores.now c.loop-place.place c.in-Some.key c.in-Some.row.now c.loop-place.due.items w.push.new.self.items c.in-Some.ensures.row c.loop-place.invariant.places
        w.in_ok-push.ensures.items);
    end = c.loop-place.invariant.end;
  }
  | else-is_due w ↦ record {
    keys = ap (λ v. map place_key v.items) w.due-is
        ∙ undue_more c.args.until c.args.semaphores.now c.loop-place.place c.in-Some.key c.in-Some.row.now c.loop-place.due.items c.in-Some.ensures.row (sym c.is_due.ensures ∙ w.if-is_due.false)
        c.loop-place.invariant.keys;
    places = subst (λ v. All (IsPlaced c.args.semaphores.now) v.items) (sym w.due-is) c.loop-place.invariant.places;
    end = c.loop-place.invariant.end;
  }
]
