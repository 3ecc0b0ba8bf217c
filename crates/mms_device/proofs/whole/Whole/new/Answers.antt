use Rattle.std.proofs.Common.{ap, sym, subst}
use Rattle.step_parts.specs.State.{State, start, IsSound}
use Rattle.step_sound.proofs.Sound.{start_sound}
use Rattle.mms_device.specs.Served.{Served}
use Rattle.mms_device.proofs.AllHeld.{state_after, holds_all_after}
use Rattle.mms_device.proofs.whole.Whole.new.Goals as goal

pub invariant_of-result : goal.invariant_of-result
invariant_of-result c =
    let is = c.in_ok-all_held.ensures in (
      holds_all_after c.in_ok-all_held.field-0 (start c.args.config.now) is,
      subst (IsSound 0) (sym (state_after c.in_ok-all_held.field-0 (start c.args.config.now) is)) (start_sound c.args.config.now c.requires.config),
    )

pub returns : goal.returns
returns c =
    let is = c.in_ok-all_held.ensures in
    ap (λ (s : State). at s) (state_after c.in_ok-all_held.field-0 (start c.args.config.now) is)
  where
    at : State → Served
    at s = record { state = s; count = 0 }
