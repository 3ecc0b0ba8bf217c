use Rattle.std.proofs.Common.{◌≡◌, take}
use Rattle.cell_services.specs.Others.{clients_meanwhile}
use Rattle.cell_services.proofs.others.clients_meanwhile.Given as goal

-- the clients that are told of what happened up to the index are there
abbrev pub invariant-loop-one : goal.invariant-loop-one
invariant-loop-one l = l.clients.items ≡ clients_meanwhile (take l.one-index l.happened)
