use Rattle.std.proofs.Common.{◌≡◌, All, length, map, take}
use Rattle.std.specs.Map.{keys_of}
use Rattle.sem_ticks.specs.Drafts.{due_rows, IsPlaced}
use Rattle.sem_ticks.proofs.drafts.due_places.Given as goal

-- those up to the place are there
abbrev pub invariant-loop-place : goal.invariant-loop-place
invariant-loop-place l = record {
  keys : map (λ p. p.0.now) l.due.items ≡ keys_of (due_rows l.until (take l.place l.semaphores));
  places : All (IsPlaced l.semaphores) l.due.items;
  end : l.place-end ≡ length l.semaphores;
}
