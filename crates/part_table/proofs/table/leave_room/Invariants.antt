use Rattle.std.proofs.Common.{◌≡◌, ◌+◌, ◌-◌, ◌++◌, None, replicate, vec_len, vec_capacity}
use Rattle.part_table.proofs.table.leave_room.Given as goal

abbrev pub invariant-loop-slot : goal.invariant-loop-slot
invariant-loop-slot g l = record {
  slots : l.slots.items ≡ l.initial.slots.items ++ replicate (l._slot - 1) None;
  many : vec_len l.slots + 1 ≡ vec_len l.initial.slots + l._slot;
  room : vec_capacity l.slots ≡ vec_capacity l.initial.slots;
}
