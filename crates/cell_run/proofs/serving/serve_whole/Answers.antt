use Rattle.std.proofs.Common.{ℕ, length, ap, sym, ◌∙◌, arith}
use Rattle.mms_types.specs.Actors.{clients_to}
use Rattle.mms_device.specs.Served.{Served}
use Rattle.cell_record.specs.History.{drains}
use Rattle.cell_run.specs.Along.{along, taken_along}
use Rattle.cell_run.proofs.Alongside.{along_count, along_sized, along-append}
use Rattle.cell_run.proofs.serving.serve_whole.Goals as goal

pub drain_clients-requires : goal.drain_clients-requires
drain_clients-requires c =
    let is = ap (λ (d : Served). d.count) (c.in_ok-serve_events.ensures ∙ ap (along c.args.device.now) (c.deref.ensures.value ∙ c.into_vec-events.ensures)) in
    let count = along_count c.args.device.now c.args.phase.events in
    record { few = omega (arith, is, count, c.requires.few) }

pub returns-clause-outputs : goal.returns-clause-outputs
returns-clause-outputs c =
    let d = c.args.device.now in
    let is = c.in_ok-serve_events.ensures ∙ ap (along d) (c.deref.ensures.value ∙ c.into_vec-events.ensures) in
    c.in_ok-outputs.ensures.taken
    ∙ ap (λ (x : Served). taken_along x (clients_to (length x.state.clients))) is
    ∙ ap (λ (n : ℕ). taken_along (along d c.args.phase.events) (clients_to n)) (along_sized d c.args.phase.events)

pub returns-clause-device : goal.returns-clause-device
returns-clause-device c =
    let d = c.args.device.now in
    let is = c.in_ok-serve_events.ensures ∙ ap (along d) (c.deref.ensures.value ∙ c.into_vec-events.ensures) in
    c.in_ok-outputs.ensures.drained
    ∙ ap (λ (x : Served). along x (drains (clients_to (length x.state.clients)))) is
    ∙ ap (λ (n : ℕ). along (along d c.args.phase.events) (drains (clients_to n))) (along_sized d c.args.phase.events)
    ∙ sym (along-append d c.args.phase.events (drains (clients_to (length d.state.clients))))
