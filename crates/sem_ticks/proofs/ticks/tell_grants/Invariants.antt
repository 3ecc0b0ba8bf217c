use Rattle.std.proofs.Common.{◌≡◌, ◌++◌, map}
use Rattle.sem_ticks.specs.declared.ticks.Happening.TheVariants.{Grants}
use Rattle.sem_ticks.proofs.ticks.tell_grants.Given as goal

-- what is told so far, and then those that are left
abbrev pub invariant-loop-grant : goal.invariant-loop-grant
invariant-loop-grant l = l.happened.items ++ map Grants l.grant-iterator.rest.items ≡ l.initial.happened.items ++ map Grants l.fn.grants.items
