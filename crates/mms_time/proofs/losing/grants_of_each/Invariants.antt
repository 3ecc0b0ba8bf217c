use Rattle.std.proofs.Common.{◌≡◌, map, take}
use Rattle.std.specs.List.{flat_map}
use Rattle.std.specs.Map.{lookup}
use Rattle.mms_types.specs.Order.{key_eq}
use Rattle.mms_time.specs.Loss.{grants_of, keyed}
use Rattle.mms_time.proofs.losing.grants_of_each.Given as goal

-- the grants of the names up to the index are there
abbrev pub invariant-loop-key : goal.invariant-loop-key
invariant-loop-key l = l.grants.items ≡ flat_map (λ key. keyed key (grants_of l.client l.now (lookup (key_eq key) l.semaphores))) (map (λ key. key.now) (take l.key-index l.key-items))
