use Rattle.std.proofs.Common.{◌≡◌, length}
use Rattle.sem_ticks.specs.Dated.{dated, dated_on}
use Rattle.sem_ticks.specs.Meant.{meeting_of, with_moments}
use Rattle.sem_ticks.specs.Ticks.{entries_left, ticked, ticked_on}
use Rattle.sem_ticks.proofs.ticks.met_in_copy.Given as goal

abbrev pub invariant-loop-moments : goal.invariant-loop-moments
invariant-loop-moments l = record {
  ticked : ticked_on l.until (meeting_of l.ticked) ≡ ticked l.until l.semaphores;
  dated : dated_on l.until (with_moments (meeting_of l.ticked) l.moments.items) ≡ dated l.until l.semaphores;
  long : length l.moments.items ≡ length l.ticked.happened.items;
}

abbrev pub decreases-loop-moments : goal.decreases-loop-moments
decreases-loop-moments l = entries_left l.ticked.semaphores
