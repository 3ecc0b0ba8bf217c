use Rattle.std.proofs.Common.{◌≡◌, ◌++◌, drop, length, take}
use Rattle.event_cond.specs.Skips.{after_skip}
use Rattle.event_cond.proofs.skipping.skip_rows.Given as goal

-- the conditions up to the place are passed over, and the others are as they were
abbrev pub invariant-loop-place : goal.invariant-loop-place
invariant-loop-place g l = record {
  rows : l.rows ≡ after_skip l.until (g.C.Cells.says l.cells) (take l.place l.initial.rows) ++ drop l.place l.initial.rows;
  end : l.place-end ≡ length l.initial.rows;
}
