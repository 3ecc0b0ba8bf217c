use Rattle.std.proofs.Common.{◌≡◌, ◌-◌, length}
use Rattle.sem_queue.specs.Rows.{next_after}
use Rattle.attach_sem.specs.Chains.{is_attached}
use Rattle.attach_sem.proofs.Following.{IsLeft}
use Rattle.attach_sem.proofs.table.Attached.chain.Given as goal

abbrev pub invariant-loop-number : goal.invariant-loop-number
invariant-loop-number l = record {
  left : IsLeft (is_attached l.key l.self.pairs) l.token l.ranks.rows l.attached.items l.next;
  follows : l.served ≡ record { rows = l.ranks.rows; token = l.token; next = next_after l.next l.token l.ranks.rows };
}

abbrev pub decreases-loop-number : goal.decreases-loop-number
decreases-loop-number l = length l.ranks.rows - length l.attached.items
