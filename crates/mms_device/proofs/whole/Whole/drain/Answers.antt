use Rattle.std.proofs.Common.{ap, sym, subst, ◌+◌, ◌≤◌, ◌∙◌, length}
use Rattle.mms_types.specs.declared.event.CellEvent.TheVariants.{Drain}
use Rattle.step_parts.specs.State.{State}
use Rattle.step_parts.specs.Step.{outbox_of}
use Rattle.mms_device.specs.Served.{Served, served}
use Rattle.step_parts.specs.Partition.{state_in}
use Rattle.mms_device.proofs.AllHeld.{client_of_all, drains, is_of_its_state}
use Rattle.mms_device.proofs.whole.Whole.drain.Goals as goal

pub drain-outputs-requires-clause-held : goal.drain-outputs-requires-clause-held
drain-outputs-requires-clause-held c =
    (client_of_all c.self.inside.hand c.args.client c.self.invariant.0 c.requires.some
    (subst (λ (u : Served). c.args.client ≤ length u.state.clients) (sym c.self.view_is) c.requires.there)).0

pub invariant_of-self : goal.invariant_of-self
invariant_of-self c =
    let there = subst (λ (u : Served). c.args.client ≤ length u.state.clients) (sym c.self.view_is) c.requires.there in
    let done = drains c.self.inside.count c.self.inside.hand c.drain-outputs.new.held (Drain c.args.client) c.self.invariant.0 c.self.invariant.1
    (record { among = (c.requires.some, there); time = tt })
    (c.drain-outputs.ensures.parts (state_in c.self.inside.hand) (is_of_its_state c.self.inside.hand c.self.invariant.0) (c.requires.some, there)) in
    (done.all, done.sound)

pub returns-clause-outputs : goal.returns-clause-outputs
returns-clause-outputs c =
    let there = subst (λ (u : Served). c.args.client ≤ length u.state.clients) (sym c.self.view_is) c.requires.there in
    c.drain-outputs.ensures.outputs ∙ (client_of_all c.self.inside.hand c.args.client c.self.invariant.0 c.requires.some there).1
    ∙ ap (λ (u : Served). outbox_of u.state c.args.client) c.self.view_is

pub returns-clause-step : goal.returns-clause-step
returns-clause-step c =
    let there = subst (λ (u : Served). c.args.client ≤ length u.state.clients) (sym c.self.view_is) c.requires.there in
    let done = drains c.self.inside.count c.self.inside.hand c.drain-outputs.new.held (Drain c.args.client) c.self.invariant.0 c.self.invariant.1
    (record { among = (c.requires.some, there); time = tt })
    (c.drain-outputs.ensures.parts (state_in c.self.inside.hand) (is_of_its_state c.self.inside.hand c.self.invariant.0) (c.requires.some, there)) in
    ap (λ (s : State). at s) done.state ∙ ap (λ (d : Served). served d (Drain c.args.client)) c.self.view_is
  where
    at : State → Served
    at s = record { state = s; count = c.self.inside.count + 1 }
