use Rattle.std.proofs.Common.{◌≡◌, ◌≤◌, ◌+◌, ◌-◌, length, [], vec_capacity}
use Rattle.std.specs.List.{All}
use Rattle.crossbeam_queue.specs.Passes.{view, IsPassOf}
use Rattle.cell_pool.specs.Rule.{hand}
use Rattle.cell_pool.specs.Items.{IsReady}
use Rattle.cell_pool.proofs.phase.enlist.Given as goal

abbrev pub invariant-loop-kept : goal.invariant-loop-kept
invariant-loop-kept g l = record {
  queue : IsPassOf l.queue l.pass;
  view : view l.pass ≡ hand (64 - length l.crew.items) (view l.initial.pass).put (view l.initial.pass).taken;
  count : length l.crew.items + length l.rooms.items ≡ length l.fn.rooms.items;
  empty : All (λ room. room.items ≡ []) l.rooms.items;
  room : length l.crew.items + length l.rooms.items ≤ vec_capacity l.crew;
  crew : All (IsReady l.queue) l.crew.items;
}

abbrev pub decreases-loop-kept : goal.decreases-loop-kept
decreases-loop-kept g l = length l.rooms.items
