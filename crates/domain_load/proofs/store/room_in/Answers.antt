use Rattle.std.proofs.Common.{arith, map}
use Rattle.std.proofs.lemmas.List.{length-map}
use Rattle.domain_load.proofs.BlockLemmas.{room_is}
use Rattle.domain_load.proofs.store.room_in.Goals as goal

pub overflow_mul-result : goal.overflow_mul-result
overflow_mul-result c =
    let blocks = c.args.blocks.now in
    let long = length-map blocks (λ block. block.items) in
    let few = (room_is (map (λ block. block.items) blocks) c.args.octets _ c.requires.blocks c.requires.octets c.requires.most long).0 in
    omega (arith, few)

pub overflow_sub-result : goal.overflow_sub-result
overflow_sub-result c =
    let blocks = c.args.blocks.now in
    let long = length-map blocks (λ block. block.items) in
    (room_is (map (λ block. block.items) blocks) c.args.octets _ c.requires.blocks c.requires.octets c.requires.most long).1

pub returns : goal.returns
returns c =
    let blocks = c.args.blocks.now in
    let long = length-map blocks (λ block. block.items) in
    (room_is (map (λ block. block.items) blocks) c.args.octets _ c.requires.blocks c.requires.octets c.requires.most long).2
