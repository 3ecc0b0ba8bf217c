use Rattle.std.proofs.Common.{◌≡◌, ◌∙◌, ap, map, sym}
use Rattle.mms_types.specs.declared.key.Key.{Key}
use Rattle.mms_time.specs.declared.row.SemaphoreRow.{SemaphoreRow}
use Rattle.mms_time.proofs.Listed.{passed_over, told_more}
use Rattle.mms_time.proofs.Names.{pushed}
use Rattle.mms_time.proofs.Owned.{key_of_row, owned_row}
use Rattle.mms_time.proofs.losing.owned_keys.Goals as goal
use Rattle.mms_time.proofs.losing.owned_keys.Goals.{then-owns+in_ok-push, else-owns}

pub loop-place-preserved : goal.loop-place-preserved
loop-place-preserved c =
    let rows = c.args.semaphores.now in
    let row : Key × SemaphoreRow = (c.in-Some.key.now, c.in-Some.row.now) in
    elim c.if-owns.branch [
      | then-owns+in_ok-push w ↦ record {
        keys = ap (λ v. map (λ key. key.now) v.items) w.keys-is
            ∙ told_more key_of_row (owned_row c.args.client) rows c.loop-place.place row _ _ c.in-Some.ensures.row (sym c.owns.ensures ∙ w.if-owns.true) c.loop-place.invariant.keys
            (pushed c.loop-place.keys.items c.in-Some.key _ w.in_ok-push.ensures.items);
        end = c.loop-place.invariant.end;
      }
      | else-owns w ↦ record {
        keys = ap (λ v. map (λ key. key.now) v.items) w.keys-is
            ∙ passed_over key_of_row (owned_row c.args.client) rows c.loop-place.place row _ c.in-Some.ensures.row (sym c.owns.ensures ∙ w.if-owns.false) c.loop-place.invariant.keys;
        end = c.loop-place.invariant.end;
      }
    ]
