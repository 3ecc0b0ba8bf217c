use Rattle.std.proofs.Common.{◌≡◌, ◌+◌, length}
use Rattle.mms_types.specs.Actors.{clients_to}
use Rattle.cell_record.specs.History.{drains}
use Rattle.cell_run.specs.Along.{along, taken_along}
use Rattle.cell_run.proofs.serving.drain_clients.Given as goal

abbrev pub invariant-loop-client : goal.invariant-loop-client
invariant-loop-client l = record {
  outputs : l.outputs ≡ taken_along l.initial.device (clients_to l.client);
  device : l.device ≡ along l.initial.device (drains (clients_to l.client));
  sized : length l.device.state.clients ≡ length l.initial.device.state.clients;
  count : l.device.count ≡ l.initial.device.count + l.client;
}
