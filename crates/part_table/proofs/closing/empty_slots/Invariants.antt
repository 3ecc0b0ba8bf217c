use Rattle.std.proofs.Common.{◌≡◌, ℕ, ◌<◌, false, get_or}
use Rattle.std.specs.Mem.Slots.{slots_filled, slots_len, slots_items}
use Rattle.std.specs.Mem.Slots.Ownership.{Filled}
use Rattle.part_table.proofs.closing.empty_slots.Given as goal

abbrev pub invariant-loop-slot : goal.invariant-loop-slot
invariant-loop-slot g l = record {
  filled : Filled (slots_filled l.closed.slots) l.slot (slots_len l.closed.slots);
  emptied : (k : ℕ) → k < l.slot → get_or (slots_filled l.closed.slots) k false ≡ false;
  same : slots_items l.closed.slots ≡ slots_items l.initial.closed.slots;
  size : slots_len l.closed.slots ≡ slots_len l.initial.closed.slots;
}
