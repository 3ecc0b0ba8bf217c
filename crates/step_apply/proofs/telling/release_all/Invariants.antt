use Rattle.std.proofs.Common.{◌≡◌, ◌≤◌}
use Rattle.step_apply.specs.Rooms.{without_rooms}
use Rattle.step_apply.proofs.telling.release_all.Given as goal

abbrev pub invariant-loop-client : goal.invariant-loop-client
invariant-loop-client l = record {
  some : 1 ≤ l.client;
  released : l.held ≡ without_rooms l.client l.fn.held;
}
