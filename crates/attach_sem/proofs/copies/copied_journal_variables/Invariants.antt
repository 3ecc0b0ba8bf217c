use Rattle.std.proofs.Common.{◌≡◌, take}
use Rattle.attach_sem.proofs.copies.copied_journal_variables.Given as goal

-- the variables up to the index are copied
abbrev pub invariant-loop-variable : goal.invariant-loop-variable
invariant-loop-variable l = l.variables ≡ take l.variable-index l.from
