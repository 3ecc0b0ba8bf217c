use Rattle.std.proofs.Common.{◌≡◌, ◌++◌, map, take}
use Rattle.cell_services.proofs.others.put_clients.Given as goal

-- those of the notices up to the index are added
abbrev pub invariant-loop-notice : goal.invariant-loop-notice
invariant-loop-notice l = l.clients.items ≡ l.initial.clients.items ++ map (λ n. n.client) (take l.notice-index l.notice-items)
