use Rattle.std.proofs.Common.{◌≡◌, ◌≤◌}
use Rattle.step_apply.specs.Rooms.{room_to, with_rooms}
use Rattle.step_apply.proofs.telling.make_rooms.Given as goal

abbrev pub invariant-loop-client : goal.invariant-loop-client
invariant-loop-client l = record {
  some : 1 ≤ l.client;
  made : l.held ≡ with_rooms l.client (room_to l.told) l.fn.held;
}
