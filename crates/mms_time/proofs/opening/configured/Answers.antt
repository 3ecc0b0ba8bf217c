use Rattle.std.proofs.Common.{◌++◌, List, map, ap, sym, ◌∙◌}
use Rattle.mms_types.specs.declared.cells.PoolRow.{PoolRow}
use Rattle.mms_types.specs.Order.{key_eq}
use Rattle.mms_types.specs.KeyLaws.{keys_equal}
use Rattle.mms_time.specs.Opening.{pool_row}
use Rattle.mms_time.proofs.TokenNames.{not_there, pools_apart}
use Rattle.mms_time.proofs.opening.configured.Goals as goal

pub insert-requires : goal.insert-requires
insert-requires c =
    let before = c.loop-row.semaphores in
    let left = ap (λ (rows : List PoolRow). before ++ map pool_row rows) (sym c.in-Some.ensures.steps.0) ∙ c.loop-row.invariant.0 in
    not_there key_eq keys_equal.symm before (map pool_row c.next.new.self.rest.items) (map pool_row c.args.pools) (pool_row c.in-Some.row) left
    (pools_apart c.args.pools c.requires.names)
