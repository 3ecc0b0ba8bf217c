use Rattle.std.proofs.Common.{◌≡◌, ◌++◌, map, take}
use Rattle.sem_ticks.specs.Losing.{granted_by}
use Rattle.sem_ticks.specs.declared.ticks.Happening.TheVariants.{Grants}
use Rattle.sem_ticks.proofs.losing.tell_grants_in.Given as goal

-- those up to the index are told
abbrev pub invariant-loop-grant : goal.invariant-loop-grant
invariant-loop-grant l = record {
  told : l.happened.items ≡ l.initial.happened.items ++ map Grants (map (granted_by l.draft.row.semaphore) (take l.grant-index l.grants));
}
