use Rattle.std.proofs.Common.{◌≡◌, ◌++◌, map}
use Rattle.sem_ticks.specs.Drafts.{placed}
use Rattle.sem_ticks.proofs.drafts.rows_of.Given as goal

-- those so far, and then those that are left
abbrev pub invariant-loop-draft : goal.invariant-loop-draft
invariant-loop-draft l = l.rows.items ++ map placed l.draft-iterator.rest.items ≡ l.initial.rows.items ++ map placed l.fn.drafts.items
