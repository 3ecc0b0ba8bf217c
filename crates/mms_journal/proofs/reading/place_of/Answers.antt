use Rattle.std.proofs.Common.{rules}
use Rattle.std.proofs.lemmas.List.Sorted.{IsPartitionPoint-from_clause}
use Rattle.mms_journal.specs.Range.{is_before}
use Rattle.mms_journal.proofs.Rising.{behind, parted}
use Rattle.mms_journal.proofs.reading.place_of.Goals as goal

pub returns-clause-behind : goal.returns-clause-behind
returns-clause-behind c =
    let ws = c.args.entries.now in
    behind (λ w. is_before c.args.start c.args.after w.number) ws c.partition_point.result c.partition_point.ensures.bound
    (IsPartitionPoint-from_clause (λ w. is_before c.args.start c.args.after w.number) _ _ c.partition_point.ensures.partitioned
    (parted c.args.start c.args.after 0 ws c.requires.0 c.requires.1) (λ a r q k. search rules))
