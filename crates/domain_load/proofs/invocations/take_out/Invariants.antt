use Rattle.std.proofs.Common.{◌≡◌, ◌≤◌, ◌++◌, drop, take}
use Rattle.domain_load.proofs.invocations.take_out.Given as goal

-- those from the end on that are the name are gone
abbrev pub invariant-loop-end : goal.invariant-loop-end
invariant-loop-end l = record {
  low : l.place ≤ l.end;
  high : l.end ≤ l.initial.end;
  items : l.names.items ≡ take l.end l.initial.names.items ++ drop l.initial.end l.initial.names.items;
}

abbrev pub decreases-loop-end : goal.decreases-loop-end
decreases-loop-end l = l.end
