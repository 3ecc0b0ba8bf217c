use Rattle.std.proofs.Common.{◌≡◌}
use Rattle.part_table.specs.Known.{HoldsNothing}
use Rattle.device_tests.proofs.contention.drain_at_last.Given as goal

abbrev pub invariant-loop : goal.invariant-loop
invariant-loop g l = record {
  table : l.pass.table ≡ l.fn.pass.table;
  by : l.pass.by ≡ l.fn.pass.by;
  idle : HoldsNothing l.pass;
}
