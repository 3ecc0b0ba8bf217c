use Rattle.std.proofs.Common.{◌≡◌, All, Some, map, slice_get, take}
use Rattle.sem_ticks.specs.Drafts.{named, KeepsLeast}
use Rattle.sem_ticks.proofs.Made.{pair_meant, pair_of}
use Rattle.sem_ticks.proofs.drafts.drafts_of.Given as goal

-- those up to the index are copied
abbrev pub invariant-loop-named : goal.invariant-loop-named
invariant-loop-named l = record {
  pairs : map pair_of l.drafts.items ≡ map pair_meant (take l.named-index l.named-items);
  copies : All (λ d. slice_get l.semaphores d.place ≡ Some (named d)) l.drafts.items;
  least : All KeepsLeast l.drafts.items;
}
