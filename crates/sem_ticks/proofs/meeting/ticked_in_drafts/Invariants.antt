use Rattle.std.proofs.Common.{◌≡◌, length}
use Rattle.sem_ticks.specs.Dated.{dated, dated_on}
use Rattle.sem_ticks.specs.Drafts.{become, drafted, AreDrafts}
use Rattle.sem_ticks.specs.Meant.{drafting_of, with_moments}
use Rattle.sem_ticks.specs.Ticks.{entries_left, ticked, ticked_on}
use Rattle.sem_ticks.proofs.meeting.ticked_in_drafts.Given as goal

abbrev pub invariant-loop-next : goal.invariant-loop-next
invariant-loop-next l = record {
  drafts : AreDrafts l.until l.semaphores l.drafts.items;
  ticked : ticked_on l.until (drafting_of l.semaphores l.drafts.items l.happened.items) ≡ ticked l.until l.semaphores;
  dated : dated_on l.until (with_moments (drafting_of l.semaphores l.drafts.items l.happened.items) l.moments.items) ≡ dated l.until l.semaphores;
  long : length l.moments.items ≡ length l.happened.items;
}

abbrev pub decreases-loop-next : goal.decreases-loop-next
decreases-loop-next l = entries_left (become (drafted l.drafts.items) l.semaphores)
