use Rattle.std.proofs.Common.{◌≡◌, ◌≤◌, take}
use Rattle.std.specs.List.{count_by}
use Rattle.cell_record.specs.Report.{is_printed}
use Rattle.cell_stress.proofs.counts.count_events.Given as goal

abbrev pub invariant-loop-index : goal.invariant-loop-index
invariant-loop-index l = record {
  count : l.count ≡ count_by (λ placed. is_printed placed.1) (take l.index l.served);
  few : l.count ≤ l.index;
}
