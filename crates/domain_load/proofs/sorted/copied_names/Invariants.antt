use Rattle.std.proofs.Common.{◌≡◌, map, take}
use Rattle.domain_load.proofs.sorted.copied_names.Given as goal

-- the names up to the index are copied
abbrev pub invariant-loop-name : goal.invariant-loop-name
invariant-loop-name l = l.copies ≡ map (λ name. name.now) (take l.name-index l.names)
