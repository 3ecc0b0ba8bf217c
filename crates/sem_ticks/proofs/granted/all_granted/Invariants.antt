use Rattle.std.proofs.Common.{◌≡◌, take}
use Rattle.sem_ticks.specs.Granted.{all_granted}
use Rattle.sem_ticks.proofs.granted.all_granted.Given as goal

-- those up to the index are told
abbrev pub invariant-loop-named : goal.invariant-loop-named
invariant-loop-named l = l.told.items ≡ all_granted l.semaphores (take l.named-index l.grants)
