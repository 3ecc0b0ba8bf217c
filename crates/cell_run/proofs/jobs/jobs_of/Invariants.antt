use Rattle.std.proofs.Common.{◌≡◌, ◌++◌, []}
use Rattle.std.specs.Vec.Iter.{into_iter_items}
use Rattle.cell_run.specs.Jobs.{AreJobsOf}
use Rattle.cell_run.proofs.jobs.jobs_of.Given as goal

abbrev pub invariant-loop-pass : goal.invariant-loop-pass
invariant-loop-pass l = record {
  passes : l.fn.passes.items ≡ l.yielded ++ into_iter_items l.pass-iterator;
  jobs : AreJobsOf [] l.yielded l.jobs.items;
}
