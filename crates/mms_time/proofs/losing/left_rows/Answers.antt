use Rattle.std.proofs.Common.{◌≡◌, ◌∙◌, ◌++◌, ◌∷◌, [], List, ap, sym}
use Rattle.mms_types.specs.declared.key.Key.{Key}
use Rattle.mms_time.specs.Loss.{semaphore_without}
use Rattle.mms_time.specs.Semaphores.{changed_row}
use Rattle.mms_time.specs.declared.row.SemaphoreRow.{SemaphoreRow}
use Rattle.mms_time.proofs.Listed.{passed_over, told_more}
use Rattle.mms_time.proofs.Owned.{left_of, owned_row}
use Rattle.mms_time.proofs.losing.left_rows.Goals as goal
use Rattle.mms_time.proofs.losing.left_rows.Goals.{then-owns+in_ok-copy+in_ok-lose+in_ok-push, else-owns}

pub loop-place-preserved : goal.loop-place-preserved
loop-place-preserved c =
    let rows = c.args.semaphores.now in
    let row : Key × SemaphoreRow = (c.in-Some.field-0-0.now, c.in-Some.row.now) in
    elim c.if-owns.branch [
      | then-owns+in_ok-copy+in_ok-lose+in_ok-push w ↦ record {
        left = ap (λ v. v.items) w.left-is
            ∙ told_more (left_of c.args.client c.args.now) (owned_row c.args.client) rows c.loop-place.place row c.loop-place.left.items w.push.new.self.items c.in-Some.ensures.row
            (sym c.owns.ensures ∙ w.if-owns.true) c.loop-place.invariant.left
            (w.in_ok-push.ensures.items
            ∙ ap (λ (x : SemaphoreRow). c.loop-place.left.items ++ x ∷ []) (w.in_ok-lose.ensures.lost ∙ ap (changed_row (semaphore_without c.args.client c.args.now)) w.in_ok-copy.ensures));
        end = c.loop-place.invariant.end;
      }
      | else-owns w ↦ record {
        left = ap (λ v. v.items) w.left-is
            ∙ passed_over (left_of c.args.client c.args.now) (owned_row c.args.client) rows c.loop-place.place row c.loop-place.left.items c.in-Some.ensures.row (sym c.owns.ensures ∙ w.if-owns.false)
            c.loop-place.invariant.left;
        end = c.loop-place.invariant.end;
      }
    ]
