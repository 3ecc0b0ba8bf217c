use Rattle.std.proofs.Common.{◌≡◌, map, take}
use Rattle.domain_load.proofs.store.copied_blocks.Given as goal

-- the blocks up to the index are copied
abbrev pub invariant-loop-block : goal.invariant-loop-block
invariant-loop-block l = map (λ block. block.items) l.copies.items ≡ map (λ block. block.items) (take l.block-index l.blocks)
