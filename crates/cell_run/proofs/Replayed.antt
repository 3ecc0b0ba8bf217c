-- The device of one thread serves phases as they are recorded.
use Rattle.std.proofs.Common.{◌≡◌, ℕ, ◌+◌, ◌≤◌, List, [], ◌∷◌, ◌++◌, length, sym, ap, ◌∙◌, arith, length-append, Result, Ok, Err, OnOk, IfOk}
use Rattle.mms_types.specs.Actors.{clients_to}
use Rattle.mms_types.specs.declared.event.CellEvent.{CellEvent}
use Rattle.mms_types.specs.declared.memory.Memory.{Memory}
use Rattle.cell_config.specs.declared.config.Config.{Config}
use Rattle.mms_device.specs.Served.{Served, device_after}
use Rattle.cell_record.specs.Grammar.{phase_ms}
use Rattle.cell_record.specs.History.{drains, history}
use Rattle.cell_record.specs.Report.{placed_from}
use Rattle.cell_record.specs.declared.told.Told.{Told}
use Rattle.cell_run.specs.Along.{AreRecorded, along, taken_along}
use Rattle.cell_run.specs.Serving.{HasReplayed, MayServe, ServesPhase}
use Rattle.cell_run.proofs.Alongside.{after_sized, after-append, phase_now, phase_count, taken_so}
use Rattle.cell_run.proofs.Fronts.{history-snoc}
use Rattle.cell_run.proofs.Phases.{all_ms-append}

sized : (d : Served) (config : Config) (phases bodies : List (List CellEvent)) → HasReplayed d config phases bodies → length d.state.clients ≡ config.clients
sized d config phases bodies h = ap (λ (x : Served). length x.state.clients) h.along ∙ after_sized config (history config.clients bodies)

pub may_recorded : (d : Served) (events : List CellEvent) → MayServe (HasReplayed d) events → AreRecorded (length d.state.clients) events
may_recorded d events m = record { config = m.config; same = sized d m.config m.phases m.bodies m.served; each = m.next.recorded }

pub replayed : (d new : Served) (number : ℕ) (events : List CellEvent) (r : Result Told Memory) → length events ≤ 16384 → IfOk r (λ t. t.number ≡ number) → IfOk r (λ t. t.served ≡ placed_from (d.count + 1) events)
    → IfOk r (λ t. t.outputs ≡ taken_along (along d events) (clients_to (length d.state.clients))) → OnOk r (new ≡ along d (events ++ drains (clients_to (length d.state.clients))))
    → (config : Config) (phases bodies : List (List CellEvent)) → HasReplayed d config phases bodies → IfOk r (λ told. ServesPhase config phases bodies number events told (HasReplayed new))
replayed d new number events (Err e) few n s o is config phases bodies h = tt
replayed d new number events (Ok told) few n s o is config phases bodies h =
    let many = sized d config phases bodies h in
    let h0 = history config.clients bodies in
    let served : new ≡ along d (events ++ drains (clients_to config.clients)) = is ∙ ap (λ (k : ℕ). along d (events ++ drains (clients_to k))) many in
    let now = ap (λ (x : Served). x.state.now) served ∙ phase_now d events config.clients in
    let count = ap (λ (x : Served). x.count) served ∙ phase_count d events config.clients in
    record {
      body = events;
      number_is = n;
      placed = s ∙ ap (λ (x : Served). placed_from (x.count + 1) events) h.along;
      outputs = o ∙ ap (λ (x : Served). taken_along (along x events) (clients_to (length x.state.clients))) h.along ∙ taken_so config h0 events;
      served = record {
        along = served ∙ ap (λ (x : Served). along x (events ++ drains (clients_to config.clients))) h.along ∙ after-append config h0 (events ++ drains (clients_to config.clients))
            ∙ ap (device_after config) (sym (history-snoc config.clients bodies events));
        same = ap (λ (l : List (List CellEvent)). l ++ events ∷ []) h.same;
        clients = h.clients;
        clock = now ∙ ap (λ (k : ℕ). k + phase_ms events) h.clock ∙ (let more = all_ms-append phases events in omega (arith, more));
        count = omega (arith, count, h.count, few, h.clients, length-append phases (events ∷ []));
      };
    }
