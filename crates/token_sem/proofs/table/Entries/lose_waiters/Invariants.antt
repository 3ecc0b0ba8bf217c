use Rattle.std.proofs.Common.{◌≡◌, not, filter, length}
use Rattle.token_sem.specs.Semaphore.{waits_for}
use Rattle.token_sem.proofs.table.Entries.lose_waiters.Given as goal

abbrev pub invariant-loop-entry : goal.invariant-loop-entry
invariant-loop-entry l = record {
  same : filter (λ e. not (waits_for l.client e)) l.self.list ≡ filter (λ e. not (waits_for l.client e)) l.initial.self.list;
  named : l.self.named ≡ l.initial.self.named;
}

abbrev pub decreases-loop-entry : goal.decreases-loop-entry
decreases-loop-entry l = length l.self.list
