use Rattle.std.proofs.Common.{◌≡◌, ◌≤◌, drop, false, length}
use Rattle.program_inv.specs.Programs.{names_twice}
use Rattle.program_inv.proofs.create.has_twice.Given as goal

-- among the names from that place on none stands twice
abbrev pub invariant-loop-left : goal.invariant-loop-left
invariant-loop-left l = record {
  within : l.left ≤ length l.names;
  none : names_twice (drop l.left l.names) ≡ false;
}

abbrev pub decreases-loop-left : goal.decreases-loop-left
decreases-loop-left l = l.left
