use Rattle.std.proofs.Common.{◌≡◌, ◌<◌, IfSome, length, option_map, take}
use Rattle.mms_time.specs.Deadlines.{first_due}
use Rattle.sem_ticks.specs.Drafts.{drafted, next_named, IsNextOf}
use Rattle.sem_ticks.proofs.drafts.first_of.Given as goal

-- the least deadline of the drafts up to the place
abbrev pub invariant-loop-place : goal.invariant-loop-place
invariant-loop-place l = record {
  least : option_map next_named l.first ≡ first_due (take l.place (drafted l.drafts));
  within : IfSome l.first (λ n. n.place < l.place);
  of : IfSome l.first (IsNextOf l.drafts);
  end : l.place-end ≡ length l.drafts;
}
