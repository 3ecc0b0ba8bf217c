use Rattle.std.proofs.Common.{◌≡◌, take}
use Rattle.cell_services.specs.Changes.{clients_of}
use Rattle.cell_services.specs.Serving.{without_clients}
use Rattle.cell_services.proofs.tables.lose_variables.Given as goal

-- the clients up to the index are lost
abbrev pub invariant-loop-loss : goal.invariant-loop-loss
invariant-loop-loss l = l.variables ≡ without_clients (clients_of (take l.loss-index l.losses)) l.initial.variables
