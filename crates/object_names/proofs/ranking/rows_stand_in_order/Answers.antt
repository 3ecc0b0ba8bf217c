use Rattle.std.proofs.Common.{subst}
use Rattle.std.specs.List.Sorted.{IsStrictlySortedBy}
use Rattle.std.specs.Map.{keys_of}
use Rattle.mms_types.specs.Order.{key_order}
use Rattle.object_names.specs.Ranked.{by_name}
use Rattle.object_names.proofs.ByName.{names_ascend, same_rows}
use Rattle.object_names.proofs.ranking.rows_stand_in_order.Goals as goal

pub returns-clause-same : goal.returns-clause-same
returns-clause-same g c = same_rows c.args.table.now

pub returns-clause-ascend : goal.returns-clause-ascend
returns-clause-ascend g c =
    subst (λ rows. IsStrictlySortedBy key_order (keys_of (by_name rows))) c.table.view_is (names_ascend c.table.inside.rows.entries c.table.inside.places.items c.table.invariant.0)
