use Rattle.std.proofs.Common.{◌≡◌, ◌++◌}
use Rattle.program_inv.proofs.programs.copied_rows.Given as goal

-- the rows copied so far, and then those that are left, are all of them
abbrev pub invariant-loop-name : goal.invariant-loop-name
invariant-loop-name l = l.copies.entries ++ l.name-iterator ≡ l.rows.entries
