use Rattle.std.proofs.Common.{◌≡◌, ◌++◌, List, [], length}
use Rattle.std.specs.Vec.Iter.{into_iter_items}
use Rattle.mms_device.specs.Shared.{Caller}
use Rattle.cell_run.specs.Jobs.{AreJobsOf}
use Rattle.cell_run.proofs.jobs.give_out.Given as goal

abbrev pub invariant-loop-event : goal.invariant-loop-event
invariant-loop-event l = record {
  events : l.fn.events.items ≡ l.yielded ++ into_iter_items l.event-iterator;
  jobs : (passes : List Caller) → AreJobsOf [] passes l.initial.jobs → AreJobsOf l.yielded passes l.jobs;
  count : length l.jobs ≡ length l.initial.jobs;
}
