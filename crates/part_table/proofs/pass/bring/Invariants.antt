use Rattle.std.proofs.Common.{◌≡◌, ◌++◌, take, drop}
use Rattle.part_table.specs.Passes.{empties}
use Rattle.part_table.proofs.pass.bring.Given as goal

abbrev pub invariant-loop-turn : goal.invariant-loop-turn
invariant-loop-turn g l = record {
  same : (l.seat.table_id ≡ l.initial.seat.table_id) × (l.seat.id ≡ l.initial.seat.id) × (l.seat.me.0 ≡ l.initial.seat.me.0);
  slots : l.seat.me.1 ≡ empties (drop l._turn l.order.items ++ take l._turn l.order.items);
  order : l.order ≡ l.initial.order;
}
