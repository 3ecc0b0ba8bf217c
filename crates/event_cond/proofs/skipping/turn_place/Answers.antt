use Rattle.std.proofs.Common.{rules}
use Rattle.std.proofs.lemmas.List.Sorted.{IsPartitionPoint-from_clause}
use Rattle.event_cond.specs.Skips.{turns_sooner}
use Rattle.event_cond.proofs.Placed.{parted, placed}
use Rattle.event_cond.proofs.skipping.turn_place.Goals as goal

pub returns-clause-placed : goal.returns-clause-placed
returns-clause-placed c =
    let turn = c.args.turn.now in
    let turns = c.args.turns.now in
    placed turn turns c.partition_point.result c.partition_point.ensures.bound
    (IsPartitionPoint-from_clause (λ other. turns_sooner other turn) _ _ c.partition_point.ensures.partitioned (parted turn turns c.requires) (λ a r q k. search rules))
