use Rattle.std.proofs.Common.{◌≡◌, ◌++◌, filter_map}
use Rattle.event_ticks.specs.Skipping.{told_left}
use Rattle.event_ticks.proofs.ticking.all_told.Given as goal

-- what is told so far, and then of those that are left
abbrev pub invariant-loop-turned : goal.invariant-loop-turned
invariant-loop-turned l =
    l.told.items ++ filter_map (told_left l.losses l.enrolments) l.turned-iterator.rest.items ≡ filter_map (told_left l.fn.losses l.fn.enrolments) l.fn.turns.items
