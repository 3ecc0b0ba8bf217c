use Rattle.std.proofs.Common.{◌≤◌, drop, length, map}
use Rattle.std.specs.Option.{option_copied}
use Rattle.event_enrol.proofs.FirstKeys.{AreFirst}
use Rattle.event_enrol.proofs.enrolments.first_names.Given as goal

-- of the names of the rows from that one on, the first are there and all are counted
abbrev pub invariant-loop-left : goal.invariant-loop-left
invariant-loop-left l = record {
  within : l.left ≤ length l.rows.entries;
  are : AreFirst l.most l.scope (option_copied l.after) (drop l.left l.rows.entries) (map (λ name. name.now) l.first.items) l.count;
}

abbrev pub decreases-loop-left : goal.decreases-loop-left
decreases-loop-left l = l.left
