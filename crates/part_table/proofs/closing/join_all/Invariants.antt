use Rattle.std.proofs.Common.{◌≡◌, vec_len}
use Rattle.part_table.proofs.Ending.{JoinedSoFar}
use Rattle.part_table.proofs.closing.join_all.Given as goal

abbrev pub invariant-loop-pass : goal.invariant-loop-pass
invariant-loop-pass g l = record {
  table : l.seat.table_id ≡ l.table.shared.table_id;
  joined : JoinedSoFar l.seat.me l.fn.passes.items l.passes.items;
}

abbrev pub decreases-loop-pass : goal.decreases-loop-pass
decreases-loop-pass g l = vec_len l.passes
