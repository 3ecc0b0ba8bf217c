use Rattle.std.proofs.Common.{◌≡◌, ◌+◌, ◌≤◌, length}
use Rattle.part_table.specs.Known.{HoldsNothing}
use Rattle.part_table.proofs.example.serve.Given as goal

abbrev pub invariant-loop-turn : goal.invariant-loop-turn
invariant-loop-turn l = record {
  table : (l.pass.table ≡ l.table) × (l.pass.by ≡ l.by);
  idle : HoldsNothing l.pass;
  many : (l.made ≤ l.turn) × (l.made ≤ l.events);
  own : length l.pass.own ≡ length l.initial.pass.own + l.made;
  tries : length l.pass.lost + l.made ≡ length l.initial.pass.lost + l.turn;
  left : l.pass.left + l.made ≡ l.initial.pass.left;
}
