use Rattle.std.proofs.Common.{◌≡◌, ◌-◌, ◌++◌, drop, length, map}
use Rattle.sem_ticks.proofs.ticks.date.Given as goal

-- the moments that are kept, and then one for each of what is left
abbrev pub invariant-loop-at : goal.invariant-loop-at
invariant-loop-at l =
    l.moments.items ++ map (λ h. l.at) (drop (length l.moments.items) l.happened) ≡ l.initial.moments.items ++ map (λ h. l.at) (drop (length l.initial.moments.items) l.happened)

abbrev pub decreases-loop-at : goal.decreases-loop-at
decreases-loop-at l = length l.happened - length l.moments.items
