use Rattle.std.proofs.Common.{◌≡◌, ◌≤◌, ◌++◌, length, take}
use Rattle.cell_client.specs.Telling.{effects_told}
use Rattle.serve_events.specs.Told.{notices_told}
use Rattle.serve_events.proofs.notices.tell_notices.Given as goal

-- what is told so far, and then of those that are left; what was told before stands first
abbrev pub invariant-loop-notice : goal.invariant-loop-notice
invariant-loop-notice l = record {
  told : effects_told l.told.items ++ notices_told l.turned l.notice-iterator.rest.items ≡ effects_told l.initial.told.items ++ notices_told l.fn.turned l.fn.notices;
  first : take l.before l.told.items ≡ l.initial.told.items;
  long : l.before ≤ length l.told.items;
}
