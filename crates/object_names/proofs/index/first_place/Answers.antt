use Rattle.std.proofs.Common.{slice_get, rules}
use Rattle.std.specs.Map.{keys_of}
use Rattle.std.specs.Option.{option_copied}
use Rattle.std.proofs.lemmas.List.Sorted.{IsPartitionPoint-from_clause}
use Rattle.object_names.specs.Borrowed.{scope_meant}
use Rattle.object_names.specs.Index.{is_front, is_front_at}
use Rattle.object_names.proofs.KeysInOrder.{parted, split_from}
use Rattle.object_names.proofs.index.first_place.Goals as goal

pub returns-clause-split : goal.returns-clause-split
returns-clause-split g c =
    let scope = scope_meant c.args.scope in
    let after = option_copied c.args.after in
    let keys = keys_of c.args.rows.now.entries in
    split_from scope after keys c.args.places.now c.partition_point.result c.requires c.partition_point.ensures.bound
    (IsPartitionPoint-from_clause (λ place. is_front_at (is_front scope after) (slice_get keys place)) _ _ c.partition_point.ensures.partitioned
    (parted scope after keys c.args.places.now c.requires) (λ a r q k. search rules))
