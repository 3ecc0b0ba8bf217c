use Rattle.std.proofs.Common.{ℕ, ◌<◌, ◌≤◌, length, get_or}
use Rattle.token_sem.proofs.Positions.{no_entry}
use Rattle.pool_sem.proofs.Ends.{IsOther}
use Rattle.pool_sem.proofs.entries.owner_of.Given as goal

abbrev pub invariant-loop-low : goal.invariant-loop-low
invariant-loop-low l = record {
  within : l.high ≤ length l.entries;
  below : (j : ℕ) → j < l.low → IsOther l.client l.token l.entries (get_or l.entries j no_entry);
  above : (j : ℕ) → l.high ≤ j → j < length l.entries → IsOther l.client l.token l.entries (get_or l.entries j no_entry);
}

abbrev pub decreases-loop-low : goal.decreases-loop-low
decreases-loop-low l = l.high
