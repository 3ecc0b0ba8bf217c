use Rattle.std.proofs.Common.{◌≡◌, length}
use Rattle.sem_ticks.specs.Drafts.{become, drafted, AreDrafts}
use Rattle.sem_ticks.proofs.Inserted.{HasNoneBefore}
use Rattle.sem_ticks.proofs.losing.draft_those_of.Given as goal

-- of those up to the place whichever the client has an entry of is among the drafts
abbrev pub invariant-loop-place : goal.invariant-loop-place
invariant-loop-place l = record {
  drafts : AreDrafts l.fn.until l.semaphores l.drafts.items;
  same : become (drafted l.drafts.items) l.semaphores ≡ become (drafted l.initial.drafts.items) l.semaphores;
  none : HasNoneBefore l.client l.place l.semaphores l.drafts.items;
  end : l.place-end ≡ length l.semaphores;
}
