use Rattle.std.proofs.Common.{rules}
use Rattle.std.proofs.lemmas.List.Sorted.{IsPartitionPoint-from_clause}
use Rattle.domain_load.specs.UserNames.{is_before}
use Rattle.domain_load.proofs.UserNames.{parted_before}
use Rattle.domain_load.proofs.invocations.before.Goals as goal

pub returns : goal.returns
returns c =
    let parted = parted_before c.args.name.now c.args.names.now c.requires in
    (c.partition_point.ensures.bound, IsPartitionPoint-from_clause (λ y. is_before c.args.name.now y) _ _ c.partition_point.ensures.partitioned parted (λ a r q k. search rules))
