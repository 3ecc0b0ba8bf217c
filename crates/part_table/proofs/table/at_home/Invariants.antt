use Rattle.std.proofs.Common.{◌≡◌, ◌≤◌, ◌+◌, ◌++◌, length, vec_len, vec_capacity}
use Rattle.part_table.specs.Lines.{laid_apart, slot_of}
use Rattle.part_table.proofs.table.at_home.Given as goal

abbrev pub invariant-loop-part : goal.invariant-loop-part
invariant-loop-part g l = record {
  can : (goal.iterator-loop-part g).can_next l.part-iterator;
  ends : (goal.iterator-loop-part g).is_finite l.part-iterator;
  slots : l.slots.items ++ laid_apart l.part-iterator.rest.items ≡ laid_apart l.fn.parts.items;
  many : vec_len l.slots + slot_of (length l.part-iterator.rest.items) ≡ slot_of (length l.fn.parts.items);
  room : slot_of (length l.fn.parts.items) ≤ vec_capacity l.slots;
}
