use Rattle.std.proofs.Common.{◌≡◌, ◌++◌, map, vec_items}
use Rattle.std.specs.Vec.Iter.{into_iter_items}
use Rattle.mms_device.specs.declared.turns.CellJob.{CellJob}
use Rattle.cell_run.proofs.jobs.parted.Given as goal

abbrev pub invariant-loop-job : goal.invariant-loop-job
invariant-loop-job l = record {
  jobs : l.fn.jobs.items ≡ l.yielded ++ into_iter_items l.job-iterator;
  passes : l.passes.items ≡ map (λ (job : CellJob). job.pass) l.yielded;
  logs : map vec_items l.logs.items ≡ map (λ (job : CellJob). job.log.items) l.yielded;
}
