use Rattle.std.proofs.Common.{ap, sym, subst, ◌+◌, ◌∙◌}
use Rattle.step_parts.specs.State.{State}
use Rattle.step_parts.specs.Step.{MayCome}
use Rattle.step_parts.specs.Partition.{state_in}
use Rattle.mms_device.specs.Served.{Served, served}
use Rattle.mms_device.proofs.AllHeld.{is_of_its_state, none_needed, serves}
use Rattle.mms_device.proofs.whole.Whole.serve.Goals as goal

pub apply-requires-clause-of : goal.apply-requires-clause-of
apply-requires-clause-of c = (state_in c.self.inside.hand, (c.self.inside.count, c.self.invariant.1), is_of_its_state c.self.inside.hand c.self.invariant.0)

pub apply-requires-clause-held : goal.apply-requires-clause-held
apply-requires-clause-held c =
    none_needed c.self.inside.hand c.args.event.now c.self.invariant.0 (subst (λ (u : Served). MayCome u.state c.args.event.now) (sym c.self.view_is) c.requires.may).among

pub invariant_of-self-2 : goal.invariant_of-self-2
invariant_of-self-2 c =
    let done = serves c.self.inside.count c.self.inside.hand c.apply.new.held c.args.event.now c.self.invariant.0 c.self.invariant.1
    (subst (λ (u : Served). MayCome u.state c.args.event.now) (sym c.self.view_is) c.requires.may) c.in_ok-apply.ensures.step c.in_ok-apply.ensures.places in
    (done.all, done.sound)

pub returns-clause-step : goal.returns-clause-step
returns-clause-step c =
    let done = serves c.self.inside.count c.self.inside.hand c.apply.new.held c.args.event.now c.self.invariant.0 c.self.invariant.1
    (subst (λ (u : Served). MayCome u.state c.args.event.now) (sym c.self.view_is) c.requires.may) c.in_ok-apply.ensures.step c.in_ok-apply.ensures.places in
    ap (λ (s : State). at s) done.state ∙ ap (λ (d : Served). served d c.args.event.now) c.self.view_is
  where
    at : State → Served
    at s = record { state = s; count = c.self.inside.count + 1 }
