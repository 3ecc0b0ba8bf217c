use Rattle.std.proofs.Common.{◌≡◌, ◌≢◌, ◌++◌, [], length, map}
use Rattle.std.specs.List.{concat}
use Rattle.domain_load.specs.Kept.{AreBlocks, AreFull}
use Rattle.domain_load.proofs.store.blocks_of.Given as goal

-- the octets so far are in blocks, which are full while octets are left
abbrev pub invariant-loop-rest : goal.invariant-loop-rest
invariant-loop-rest l = record {
  joined : concat (map (λ block. block.items) l.blocks.items) ++ l.rest ≡ l.octets;
  blocks : AreBlocks (map (λ block. block.items) l.blocks.items);
  full : l.rest ≢ [] → AreFull (map (λ block. block.items) l.blocks.items);
  none : l.octets ≡ [] → l.blocks.items ≡ [];
}

abbrev pub decreases-loop-rest : goal.decreases-loop-rest
decreases-loop-rest l = length l.rest
