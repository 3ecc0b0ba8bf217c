use Rattle.std.proofs.Common.{◌≡◌, ℕ, ◌<◌, take}
use Rattle.std.specs.List.{list_any}
use Rattle.pool_sem.specs.Pools.{has}
use Rattle.pool_sem.specs.Marks.{is_marked}
use Rattle.pool_sem.proofs.marks.Marks.of.Given as goal

abbrev pub invariant-loop-entry : goal.invariant-loop-entry
invariant-loop-entry l = (t : ℕ) → t < 256 → is_marked l.marks t ≡ list_any (has t) (take l.entry-index l.entries)
