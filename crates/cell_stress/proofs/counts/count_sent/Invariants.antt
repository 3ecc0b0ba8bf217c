use Rattle.std.proofs.Common.{◌≡◌, ◌≤◌, take}
use Rattle.std.specs.List.{count_by}
use Rattle.cell_stress.specs.Counts.{is_pdu}
use Rattle.cell_stress.proofs.counts.count_sent.Given as goal

abbrev pub invariant-loop-what : goal.invariant-loop-what
invariant-loop-what l = record {
  count : l.count ≡ count_by is_pdu (take l.what-index l.sent);
  few : l.count ≤ l.what-index;
}
