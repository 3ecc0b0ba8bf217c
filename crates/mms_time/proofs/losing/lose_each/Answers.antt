use Rattle.std.proofs.Common.{◌≡◌, ◌∙◌, Some, ap, arith, length, slice_get, sym}
use Rattle.std.specs.Map.{values_of}
use Rattle.mms_time.specs.Loss.{semaphore_without}
use Rattle.mms_time.specs.Semaphores.{Rows, changed_row}
use Rattle.mms_time.proofs.EachLost.{lost_more}
use Rattle.mms_time.proofs.Owned.{left_put, left_still, left_there, owned}
use Rattle.mms_time.proofs.losing.lose_each.Goals as goal
use Rattle.mms_time.proofs.losing.lose_each.Goals.{then-owns+in-Some-next, else-owns}

pub unreachable-requires-in_default-next : goal.unreachable-requires-in_default-next
unreachable-requires-in_default-next c =
    let some = left_there c.args.client c.args.now c.args.semaphores.now c.loop-place.semaphores c.loop-place.place c.in-Some.row.now c.loop-place.left.rest.items c.loop-place.invariant.rows
    (sym c.in-Some.ensures.value) c.loop-place.invariant.left (sym c.owns.ensures ∙ c.if-owns.true) in
    let many = c.loop-place.invariant.many in
    let none = c.in_default-next.ensures.cases.0 in
    absurd (omega (arith, some, many, none))

pub loop-place-preserved : goal.loop-place-preserved
loop-place-preserved c =
    let client = c.args.client in
    let now = c.args.now in
    let all = c.args.semaphores.now in
    let rows = c.loop-place.semaphores in
    let place = c.loop-place.place in
    let row = c.in-Some.row.now in
    let left = c.loop-place.left.rest.items in
    let at : slice_get (values_of rows) place ≡ Some row = sym c.in-Some.ensures.value in
    let is = c.loop-place.invariant.rows in
    let stays = c.loop-place.invariant.left in
    let many = c.loop-place.invariant.many in
    let put = left_put client now all rows place row left is at stays in
    let lost = lost_more (changed_row (semaphore_without client now)) all rows _ place row in
    elim c.if-owns.branch [
      | then-owns+in-Some-next w ↦
          let one = put w.in-Some-next.new w.next.new.self.rest.items (sym c.owns.ensures ∙ w.if-owns.true) w.in-Some-next.ensures.items in
          let fewer = w.in-Some-next.ensures.len in
          let next = ap length w.in-Some-next.ensures.items in
          let count : w.next.new.self.rest.len ≡ length w.next.new.self.rest.items = omega (arith, fewer, next, many) in
          record {
            rows = lost w.in-Some-next.new is at one.0 w.semaphores-is;
            left = ap (λ v. v.rest.items) w.left-is ∙ one.1;
            many = ap (λ v. v.rest.len) w.left-is ∙ count ∙ sym (ap (λ v. length v.rest.items) w.left-is);
            end = c.loop-place.invariant.end;
          }
      | else-owns w ↦ record {
        rows = lost w.lose_waiter.new.self is at w.lose_waiter.ensures w.semaphores-is;
        many = ap (λ v. v.rest.len) w.left-is ∙ many ∙ sym (ap (λ v. length v.rest.items) w.left-is);
        left = ap (λ v. v.rest.items) w.left-is ∙ left_still client now all rows place row left is at stays (sym c.owns.ensures ∙ w.if-owns.false);
        end = c.loop-place.invariant.end;
      }
    ]
