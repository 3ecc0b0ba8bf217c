use Rattle.std.proofs.Common.{◌≡◌, ◌-◌, ◌++◌, drop, length, map, take}
use Rattle.std.specs.List.{concat}
use Rattle.domain_load.proofs.store.gathered.Given as goal

-- what is there, and then what is wanted of the blocks that are left, is all that is wanted
abbrev pub invariant-loop-block : goal.invariant-loop-block
invariant-loop-block l = l.octets.items ++ take (l.most - length l.octets.items) (drop l.skip (concat (map (λ block. block.items) (drop l.block-index l.blocks))))
    ≡ take l.most (drop l.from (concat (map (λ block. block.items) l.blocks)))
