use Rattle.std.proofs.Common.{◌≡◌, false, length, take}
use Rattle.event_cond.specs.Skips.{any_due}
use Rattle.event_cond.proofs.conditions.Conditions.is_due.Given as goal

-- none up to the place is due
abbrev pub invariant-loop-place : goal.invariant-loop-place
invariant-loop-place l = record {
  none : any_due l.until (take l.place l.self) ≡ false;
  end : l.place-end ≡ length l.self;
}
