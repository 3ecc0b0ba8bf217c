use Rattle.std.proofs.Common.{◌≡◌, ◌+◌, ◌++◌, ◌⊎◌, ℕ, Some, length, map, slice_get, flat_map, vec_items}
use Rattle.std.specs.Vec.Iter.{into_iter_items, into_iter_len}
use Rattle.mms_types.specs.declared.event.CellEvent.{CellEvent}
use Rattle.mms_device.specs.Shared.{History, all_events}
use Rattle.cell_run.specs.Laying.{Has, IsLaid, IsServedBy}
use Rattle.cell_run.proofs.laying.lay_all.Given as goal

abbrev pub invariant-loop-log : goal.invariant-loop-log
invariant-loop-log l = record {
  logs : l.fn.logs.items ≡ l.yielded ++ into_iter_items l.log-iterator;
  len : length l.fn.logs.items ≡ length l.yielded + into_iter_len l.log-iterator;
  count : length l.slots ≡ length l.initial.slots;
  laid : (body : History) → IsServedBy l.first (map vec_items l.fn.logs.items) body → (index : ℕ)
      → IsLaid l.slots (all_events body) index
      ⊎ ((e : CellEvent) → slice_get (all_events body) index ≡ Some e → Has (flat_map vec_items (into_iter_items l.log-iterator)) (l.first + index, e));
}
