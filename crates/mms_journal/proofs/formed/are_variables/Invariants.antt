use Rattle.std.proofs.Common.{ℕ, ◌<◌, get_or}
use Rattle.mms_types.specs.declared.journal.JournalVariable.{JournalVariable}
use Rattle.mms_journal.specs.Formed.{IsVariable}
use Rattle.mms_journal.proofs.formed.are_variables.Given as goal

-- the variables up to the index are of their form
abbrev pub invariant-loop-variable : goal.invariant-loop-variable
invariant-loop-variable l = (k : ℕ) (d : JournalVariable) → k < l.variable-index → IsVariable (get_or l.variables k d)
