use Rattle.std.proofs.Common.{◌≡◌, ◌++◌}
use Rattle.object_names.proofs.copying.copied_rows.Given as goal

-- the rows copied so far, and then those that are left, are all of them
abbrev pub invariant-loop-key : goal.invariant-loop-key
invariant-loop-key g l = l.copies.entries ++ l.key-iterator ≡ l.rows.entries
