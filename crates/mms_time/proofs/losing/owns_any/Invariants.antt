use Rattle.std.proofs.Common.{◌≡◌, false, length, take}
use Rattle.mms_time.specs.Loss.{owns_any}
use Rattle.mms_time.proofs.losing.owns_any.Given as goal

-- of none up to the place
abbrev pub invariant-loop-place : goal.invariant-loop-place
invariant-loop-place l = (owns_any l.client (take l.place l.semaphores) ≡ false) × (l.place-end ≡ length l.semaphores)
