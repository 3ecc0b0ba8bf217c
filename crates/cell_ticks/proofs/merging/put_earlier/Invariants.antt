use Rattle.std.proofs.Common.{◌≡◌, ◌+◌, ◌++◌, List, length, vec_capacity, vec_len}
use Rattle.std.specs.VecDeque.{deque_len}
use Rattle.cell_ticks.specs.Meant.{From}
use Rattle.cell_ticks.specs.Parts.{merged}
use Rattle.cell_ticks.specs.declared.happening.DatedHappening.{DatedHappening}
use Rattle.cell_ticks.proofs.merging.put_earlier.Given as goal

-- what stands so far, and then both lists in one; and there is room for all that are left
abbrev pub invariant-loop-at : goal.invariant-loop-at
invariant-loop-at l = record {
  same : (xs : List DatedHappening) → From l.at xs → l.all.items ++ merged xs l.left.items ≡ l.initial.all.items ++ merged xs l.initial.left.items;
  many : vec_len l.all + deque_len l.left ≡ vec_len l.initial.all + deque_len l.initial.left;
  capacity : vec_capacity l.all ≡ vec_capacity l.initial.all;
}

abbrev pub decreases-loop-at : goal.decreases-loop-at
decreases-loop-at l = length l.left.items
