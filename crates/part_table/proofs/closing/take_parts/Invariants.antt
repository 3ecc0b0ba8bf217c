use Rattle.std.proofs.Common.{◌≡◌, ℕ, ◌<◌, ◌≤◌, false, get_or, vec_len, vec_capacity}
use Rattle.std.specs.Mem.Slots.{slots_filled, slots_len, slots_items}
use Rattle.std.specs.Mem.Slots.Ownership.{Filled}
use Rattle.part_table.specs.Closing.{AreOfSlots}
use Rattle.part_table.specs.Lines.{slot_of}
use Rattle.part_table.proofs.closing.take_parts.Given as goal

abbrev pub invariant-loop-place : goal.invariant-loop-place
invariant-loop-place g l = record {
  filled : Filled (slots_filled l.closed.slots) (slot_of l.place) (slots_len l.closed.slots);
  emptied : (k : ℕ) → k < slot_of l.place → get_or (slots_filled l.closed.slots) k false ≡ false;
  same : slots_items l.closed.slots ≡ slots_items l.initial.closed.slots;
  size : slots_len l.closed.slots ≡ slots_len l.initial.closed.slots;
  taken : AreOfSlots l.place (slots_items l.closed.slots) l.parts.items;
  many : vec_len l.parts ≡ l.place;
  room : l.count ≤ vec_capacity l.parts;
}
