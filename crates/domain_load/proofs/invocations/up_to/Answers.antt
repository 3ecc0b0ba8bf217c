use Rattle.std.proofs.Common.{rules}
use Rattle.std.proofs.lemmas.List.Sorted.{IsPartitionPoint-from_clause}
use Rattle.domain_load.specs.UserNames.{is_up_to}
use Rattle.domain_load.proofs.UserNames.{parted_up_to}
use Rattle.domain_load.proofs.invocations.up_to.Goals as goal

pub returns : goal.returns
returns c =
    let parted = parted_up_to c.args.name.now c.args.names.now c.requires in
    (c.partition_point.ensures.bound, IsPartitionPoint-from_clause (λ y. is_up_to c.args.name.now y) _ _ c.partition_point.ensures.partitioned parted (λ a r q k. search rules))
