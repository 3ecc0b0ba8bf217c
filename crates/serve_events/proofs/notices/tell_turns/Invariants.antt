use Rattle.std.proofs.Common.{◌≡◌, ◌≤◌, ◌++◌, length, take}
use Rattle.cell_client.specs.Telling.{effects_told}
use Rattle.serve_events.specs.Told.{turns_told}
use Rattle.serve_events.proofs.notices.tell_turns.Given as goal

-- what is told so far, and then of those that are left; what was told before stands first
abbrev pub invariant-loop-turned : goal.invariant-loop-turned
invariant-loop-turned l = record {
  told : effects_told l.told.items ++ turns_told l.enrolments l.rest ≡ effects_told l.initial.told.items ++ turns_told l.fn.enrolments l.fn.turns;
  first : take l.before l.told.items ≡ l.initial.told.items;
  long : l.before ≤ length l.told.items;
}

abbrev pub decreases-loop-turned : goal.decreases-loop-turned
decreases-loop-turned l = length l.rest
