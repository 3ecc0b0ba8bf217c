use Rattle.std.proofs.Common.{◌≡◌, ◌+◌, length, take}
use Rattle.cell_record.specs.Grammar.{phase_ms}
use Rattle.cell_run.specs.Along.{along}
use Rattle.cell_run.proofs.serving.serve_events.Given as goal

abbrev pub invariant-loop-event : goal.invariant-loop-event
invariant-loop-event l = record {
  device : l.device ≡ along l.initial.device (take l.event-index l.events);
  sized : length l.device.state.clients ≡ length l.initial.device.state.clients;
  now : l.device.state.now ≡ l.initial.device.state.now + phase_ms (take l.event-index l.events);
  count : l.device.count ≡ l.initial.device.count + l.event-index;
}
