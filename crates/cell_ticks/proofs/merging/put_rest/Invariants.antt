use Rattle.std.proofs.Common.{◌≡◌, ◌+◌, ◌++◌, ◌≤◌, length, vec_capacity, vec_len}
use Rattle.std.specs.VecDeque.{deque_len}
use Rattle.cell_ticks.proofs.merging.put_rest.Given as goal

-- what stands so far, and then all that is left, for which there is room
abbrev pub invariant-loop-first : goal.invariant-loop-first
invariant-loop-first l = record {
  all : l.all.items ++ l.left.items ≡ l.initial.all.items ++ l.fn.left.items;
  room : vec_len l.all + deque_len l.left ≤ vec_capacity l.all;
}

abbrev pub decreases-loop-first : goal.decreases-loop-first
decreases-loop-first l = length l.left.items
