use Rattle.std.proofs.Common.{◌≡◌, ◌++◌, drop, length, take}
use Rattle.mms_time.specs.Loss.{all_changed, left_rows, semaphore_without}
use Rattle.mms_time.proofs.losing.lose_each.Given as goal

-- the semaphores up to the place have lost the client, and the others are as they were; what is left of those is there
abbrev pub invariant-loop-place : goal.invariant-loop-place
invariant-loop-place l = record {
  rows : l.semaphores ≡ all_changed (semaphore_without l.client l.now) (take l.place l.initial.semaphores) ++ drop l.place l.initial.semaphores;
  left : l.left.rest.items ≡ left_rows l.client l.now (drop l.place l.initial.semaphores);
  many : l.left.rest.len ≡ length l.left.rest.items;
  end : l.place-end ≡ length l.initial.semaphores;
}
