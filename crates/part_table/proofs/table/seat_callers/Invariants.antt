use Rattle.std.proofs.Common.{◌≡◌, ◌≤◌, ◌-◌, [], map, vec_len, vec_capacity}
use Rattle.std.specs.List.{range_with_len}
use Rattle.part_table.specs.Known.{newcomer}
use Rattle.part_table.specs.Plays.{starting, accounts_from}
use Rattle.part_table.specs.Rule.{setting_of}
use Rattle.part_table.specs.Tables.{opened}
use Rattle.part_table.proofs.table.seat_callers.Given as goal

abbrev pub invariant-loop-by : goal.invariant-loop-by
invariant-loop-by g l = record {
  table : l.seat.table_id ≡ l.table.shared.table_id;
  seat : l.seat.me ≡ (starting (setting_of l.table.shared.key) (accounts_from l.table.shared.key.quota l.by (l.table.shared.key.callers - l.by)), []);
  passes : l.passes.items ≡ map (newcomer (opened l.table.shared.table_id l.table.shared.key)) (range_with_len 0 l.by);
  many : vec_len l.passes ≡ l.by;
  room : l.callers ≤ vec_capacity l.passes;
}
