use Rattle.std.proofs.Common.{◌≡◌, take}
use Rattle.cell_services.specs.Changes.{clients_of}
use Rattle.cell_services.specs.Serving.{journals_without}
use Rattle.cell_services.proofs.tables.lose_journals.Given as goal

-- the clients up to the index are lost
abbrev pub invariant-loop-loss : goal.invariant-loop-loss
invariant-loop-loss l = l.journals ≡ journals_without (clients_of (take l.loss-index l.losses)) l.initial.journals
