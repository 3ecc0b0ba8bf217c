use Rattle.std.proofs.Common.{◌≡◌, ◌≤◌, ◌++◌, length, take}
use Rattle.serve_semaphores.specs.Semaphores.{grants_told}
use Rattle.cell_client.specs.Telling.{effects_told}
use Rattle.serve_semaphores.proofs.granting.tell_grants.Given as goal

-- what is told so far, and then of those that are left; what was told before stands first
abbrev pub invariant-loop-grant : goal.invariant-loop-grant
invariant-loop-grant l = record {
  told : effects_told l.told.items ++ grants_told l.grant-iterator.rest.items ≡ effects_told l.initial.told.items ++ grants_told l.fn.grants.items;
  first : take l.before l.told.items ≡ l.initial.told.items;
  long : l.before ≤ length l.told.items;
}
