use Rattle.std.proofs.Common.{◌≡◌, ◌+◌, ◌++◌, drop, length, map, zip}
use Rattle.cell_ticks.specs.Parts.{in_semaphores}
use Rattle.cell_ticks.proofs.merging.in_semaphores.Given as goal

-- what has its moment so far, and then what is left with those that are left
abbrev pub invariant-loop-happening : goal.invariant-loop-happening
invariant-loop-happening l = record {
  all : l.all.items ++ map in_semaphores (zip (drop (length l.all.items) l.moments) l.happening-iterator.rest.items) ≡ map in_semaphores (zip l.fn.moments l.fn.happened.items);
  long : length l.all.items + length l.happening-iterator.rest.items ≡ length l.moments;
}
