use Rattle.std.proofs.Common.{◌≡◌, ◌+◌, ◌++◌, ◌≤◌, vec_capacity, vec_len}
use Rattle.std.specs.Vec.Iter.{into_iter_len}
use Rattle.std.specs.VecDeque.{deque_len}
use Rattle.cell_ticks.specs.Meant.{AreInOrder}
use Rattle.cell_ticks.specs.Parts.{merged}
use Rattle.cell_ticks.proofs.merging.merged.Given as goal

-- what stands so far, and then both lists in one; and there is room for what is left of both
abbrev pub invariant-loop-one : goal.invariant-loop-one
invariant-loop-one l = record {
  all : l.all.items ++ merged l.one-iterator.rest.items l.left.items ≡ merged l.fn.happened.items l.fn.left.items;
  order : AreInOrder l.one-iterator.rest.items;
  room : vec_len l.all + into_iter_len l.one-iterator + deque_len l.left ≤ vec_capacity l.all;
}
