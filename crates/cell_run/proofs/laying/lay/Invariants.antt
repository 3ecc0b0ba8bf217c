use Rattle.std.proofs.Common.{◌≡◌, ◌+◌, ◌⊎◌, ℕ, List, Some, length, slice_get}
use Rattle.mms_types.specs.declared.event.CellEvent.{CellEvent}
use Rattle.cell_run.specs.Laying.{Has, IsLaid, Stands}
use Rattle.cell_run.proofs.laying.lay.Given as goal

abbrev pub invariant-loop-ticket : goal.invariant-loop-ticket
invariant-loop-ticket l = record {
  count : length l.slots ≡ length l.initial.slots;
  still : (q : ℕ × CellEvent) → Has l.log.items q → Has l.fn.log.items q;
  laid : (all : List CellEvent) (index : ℕ) → ((q : ℕ × CellEvent) → Has l.fn.log.items q → Stands l.first all q)
      → IsLaid l.initial.slots all index ⊎ ((e : CellEvent) → slice_get all index ≡ Some e → Has l.fn.log.items (l.first + index, e))
      → IsLaid l.slots all index ⊎ ((e : CellEvent) → slice_get all index ≡ Some e → Has l.log.items (l.first + index, e));
}

abbrev pub decreases-loop-ticket : goal.decreases-loop-ticket
decreases-loop-ticket l = length l.log.items
