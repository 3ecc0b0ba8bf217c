use Rattle.std.proofs.Common.{◌≡◌, ◌+◌, ◌++◌, length, []}
use Rattle.std.specs.List.{range_with_len}
use Rattle.std.specs.Vec.Iter.{into_iter_items, into_iter_len}
use Rattle.crossbeam_queue.specs.Passes.{view, IsPassOf}
use Rattle.cell_pool.specs.Rule.{hand}
use Rattle.cell_pool.proofs.phase.fill.Given as goal

abbrev pub invariant-loop-job : goal.invariant-loop-job
invariant-loop-job g l = record {
  queue : IsPassOf l.queue l.pass;
  view : view l.pass ≡ hand 64 (range_with_len 0 l.place) [];
  place : l.place ≡ length l.yielded;
  jobs : l.fn.jobs.items ≡ l.yielded ++ into_iter_items l.job-iterator;
  len : length l.fn.jobs.items ≡ l.place + into_iter_len l.job-iterator;
}
