use Rattle.std.proofs.Common.{◌≡◌, ◌≤◌, length}
use Rattle.call_tests.proofs.waiting.crowded.Given as goal

abbrev pub invariant-loop-before : goal.invariant-loop-before
invariant-loop-before l = record {
  tokens : length l.pool.tokens ≡ 3;
  made : l.pool.made ≤ l.before;
}
