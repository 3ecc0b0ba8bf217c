use Rattle.std.proofs.Common.{◌≡◌, fold}
use Rattle.sem_ticks.specs.Renewed.{put_at}
use Rattle.sem_ticks.proofs.renewed.put_places.Given as goal

-- those so far are put, and then those that are left
abbrev pub invariant-loop-placed : goal.invariant-loop-placed
invariant-loop-placed l = fold put_at l.semaphores l.placed-iterator.rest.items ≡ fold put_at l.fn.semaphores l.fn.places.items
