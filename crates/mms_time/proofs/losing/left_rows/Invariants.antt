use Rattle.std.proofs.Common.{◌≡◌, length, take}
use Rattle.mms_time.specs.Loss.{left_rows}
use Rattle.mms_time.proofs.losing.left_rows.Given as goal

-- those up to the place are there
abbrev pub invariant-loop-place : goal.invariant-loop-place
invariant-loop-place l = record {
  left : l.left.items ≡ left_rows l.client l.now (take l.place l.semaphores);
  end : l.place-end ≡ length l.semaphores;
}
