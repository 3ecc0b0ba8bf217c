use Rattle.std.proofs.Common.{◌≡◌}
use Rattle.part_table.specs.Known.{HoldsNothing}
use Rattle.device_tests.proofs.contention.play.Given as goal

abbrev pub invariant-loop-step : goal.invariant-loop-step
invariant-loop-step g l = record {
  table : l.pass.table ≡ l.device.table;
  by : l.client ≡ l.pass.by;
  idle : HoldsNothing l.pass;
}
