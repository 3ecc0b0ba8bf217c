use Rattle.std.proofs.Common.{◌≡◌, ℕ, ◌*◌, ◌<◌, true}
use Rattle.pool_sem.specs.Marks.{is_marked}
use Rattle.pool_sem.proofs.marks.Marks.first_free.Given as goal

abbrev pub invariant-loop-place : goal.invariant-loop-place
invariant-loop-place l = (t : ℕ) → t < 64 * l.place → is_marked l.self t ≡ true
