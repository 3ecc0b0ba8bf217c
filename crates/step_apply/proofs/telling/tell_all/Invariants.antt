use Rattle.std.proofs.Common.{◌≡◌, ◌+◌, ◌++◌, length}
use Rattle.step_apply.specs.Rooms.{without_rooms}
use Rattle.step_apply.proofs.ToldLaws.{Tells}
use Rattle.step_apply.proofs.telling.tell_all.Given as goal

abbrev pub invariant-loop-client : goal.invariant-loop-client
invariant-loop-client l = record {
  all : l.fn.told.items ≡ l.yielded ++ l.client-iterator.rest.items;
  many : l.client-iterator.rest.len ≡ length l.client-iterator.rest.items;
  tells : Tells l.clients (without_rooms (l.clients + 1) l.fn.held) l.held l.yielded l.client-iterator.rest.items;
}
