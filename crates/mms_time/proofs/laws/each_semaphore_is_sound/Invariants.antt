use Rattle.std.proofs.Common.{◌≡◌, ℕ, ◌<◌, get_or, length}
use Rattle.mms_types.specs.declared.key.Key.{Key}
use Rattle.mms_time.specs.Semaphores.{IsSound}
use Rattle.mms_time.specs.declared.row.SemaphoreRow.{SemaphoreRow}
use Rattle.mms_time.proofs.laws.each_semaphore_is_sound.Given as goal

-- the semaphores up to the place are sound
abbrev pub invariant-loop-place : goal.invariant-loop-place
invariant-loop-place l = ((k : ℕ) (d : Key × SemaphoreRow) → k < l.place → IsSound (get_or l.semaphores k d).1.semaphore) × (l.place-end ≡ length l.semaphores)
