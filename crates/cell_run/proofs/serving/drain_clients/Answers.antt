use Rattle.std.proofs.Common.{◌+◌, ◌++◌, ◌∷◌, [], List, length, ap, ap₂, sym, ◌∙◌, arith}
use Rattle.mms_types.specs.declared.event.What.{What}
use Rattle.mms_types.specs.declared.event.CellEvent.TheVariants.{Drain}
use Rattle.step_parts.specs.Step.{outbox_of}
use Rattle.mms_device.specs.Served.{Served, served}
use Rattle.cell_run.proofs.Alongside.{one_taken, one_drain, step_sized}
use Rattle.cell_run.proofs.serving.drain_clients.Goals as goal

pub loop-client-preserved : goal.loop-client-preserved
loop-client-preserved c =
    let n = c.loop-client.client in
    let d = c.args.device.now in
    let counted = ap (λ (x : Served). x.count) c.drain-drained.ensures.step in
    let before = c.loop-client.invariant.count in
    record {
      outputs = c.in_ok-push.ensures.appended
          ∙ ap₂ (λ (a : List (List What)) (b : List What). a ++ b ∷ []) c.loop-client.invariant.outputs
          (c.drain-drained.ensures.outputs ∙ ap (λ (x : Served). outbox_of x.state (n + 1)) c.loop-client.invariant.device)
          ∙ sym (one_taken d n);
      device = c.drain-drained.ensures.step ∙ ap (λ (x : Served). served x (Drain (n + 1))) c.loop-client.invariant.device ∙ sym (one_drain d n);
      sized = ap (λ (x : Served). length x.state.clients) c.drain-drained.ensures.step ∙ step_sized c.loop-client.device.state (Drain (n + 1)) ∙ c.loop-client.invariant.sized;
      count = omega (arith, counted, before);
    }
