use Rattle.std.proofs.Common.{◌≡◌, ◌≤◌, ◌*◌, ◌^◌, take}
use Rattle.cell_stress.specs.Counts.{pdus_in}
use Rattle.cell_stress.proofs.counts.count_replies.Given as goal

abbrev pub invariant-loop-place : goal.invariant-loop-place
invariant-loop-place l = record {
  count : l.count ≡ pdus_in (take l.place l.outputs);
  few : l.count ≤ l.place * 2 ^ 64;
}
