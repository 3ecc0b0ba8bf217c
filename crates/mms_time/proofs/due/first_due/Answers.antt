use Rattle.std.proofs.Common.{◌≡◌, Some, option_map}
use Rattle.token_sem.specs.Semaphore.{deadline_at}
use Rattle.mms_time.specs.Deadlines.{due_meant}
use Rattle.mms_time.specs.Semaphores.{entries_of}
use Rattle.mms_time.proofs.Soonest.{first_more, if_meant, stands_more}
use Rattle.mms_time.proofs.due.first_due.Goals as goal

pub loop-place-preserved : goal.loop-place-preserved
loop-place-preserved c =
    let rows = c.args.semaphores.now in
    let place = c.loop-place.place in
    let key = c.in-Some.key.now in
    let row = c.in-Some.row.now in
    let first = option_map due_meant c.loop-place.first in
    let here = option_map due_meant c.due_of.result in
    let soonest = option_map due_meant c.sooner_of-first.result in
    record {
      least = first_more rows place key row first here soonest c.in-Some.ensures.row c.loop-place.invariant.least c.due_of.ensures.least c.sooner_of-first.ensures;
      stands = stands_more rows place key row first here soonest c.len-place-end.ensures.distinct c.in-Some.ensures.row c.loop-place.invariant.stands
          (if_meant (λ d. deadline_at d.entry (entries_of row) ≡ Some d.at) c.due_of.result c.due_of.ensures.stands)
          (if_meant (λ d. d.key ≡ key) c.due_of.result c.due_of.ensures.key) c.sooner_of-first.ensures;
      end = c.loop-place.invariant.end;
    }
