use Rattle.std.proofs.Common.{◌≡◌, map, take}
use Rattle.cell_services.specs.Others.{client_of}
use Rattle.cell_services.proofs.others.clients_of.Given as goal

-- the clients up to the index are there
abbrev pub invariant-loop-happening : goal.invariant-loop-happening
invariant-loop-happening l = l.clients.items ≡ map client_of (take l.happening-index l.happened)
