use Rattle.std.proofs.Common.{◌≡◌, ◌++◌}
use Rattle.std.specs.Vec.Iter.{into_iter_items}
use Rattle.cell_run.specs.Laying.{filled}
use Rattle.cell_run.proofs.laying.in_order.Given as goal

abbrev pub invariant-loop-slot : goal.invariant-loop-slot
invariant-loop-slot l = record {
  slots : l.fn.slots.items ≡ l.yielded ++ into_iter_items l.slot-iterator;
  events : l.events.items ≡ filled l.yielded;
}
