use Rattle.std.proofs.Common.{◌≡◌, ◌≤◌, drop, length}
use Rattle.event_cond.specs.Skips.{first_turns}
use Rattle.event_cond.proofs.conditions.Conditions.first_turns.Given as goal

-- the transitions of the conditions from that place on
abbrev pub invariant-loop-left : goal.invariant-loop-left
invariant-loop-left g l = record {
  within : l.left ≤ length l.self;
  turns : l.turns.items ≡ first_turns l.until (g.C.Cells.says l.cells) (drop l.left l.self);
}

abbrev pub decreases-loop-left : goal.decreases-loop-left
decreases-loop-left g l = l.left
