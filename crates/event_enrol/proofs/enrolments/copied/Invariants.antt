use Rattle.std.proofs.Common.{◌≡◌, ◌++◌}
use Rattle.event_enrol.proofs.enrolments.copied.Given as goal

-- the rows copied so far, and then those that are left, are all of them
abbrev pub invariant-loop-key : goal.invariant-loop-key
invariant-loop-key l = l.copies ++ l.key-iterator ≡ l.rows.entries
