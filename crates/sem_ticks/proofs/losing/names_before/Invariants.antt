use Rattle.std.proofs.Common.{◌≡◌, ◌+◌, ◌-◌, ◌≤◌, drop, length}
use Rattle.sem_ticks.specs.Losing.{names_before}
use Rattle.sem_ticks.proofs.losing.names_before.Given as goal

-- those up to the place come before, and so many more of the rest
abbrev pub invariant-loop-before : goal.invariant-loop-before
invariant-loop-before l = record {
  within : l.before ≤ length l.drafts;
  rest : names_before l.key l.drafts ≡ l.before + names_before l.key (drop l.before l.drafts);
}

abbrev pub decreases-loop-before : goal.decreases-loop-before
decreases-loop-before l = length l.drafts - l.before
