use Rattle.std.proofs.Common.{rules, not, ◌==◌, ◌≢◌}
use Rattle.std.proofs.lemmas.Fn.{filter_same}
use Rattle.std.proofs.lemmas.List.Kept.{AllPairs-filter}
use Rattle.association.specs.declared.waiting.Waiting.{Waiting}
use Rattle.association.proofs.waiting.remove_waiting.Goals as goal

pub returns-clause-rows : goal.returns-clause-rows
returns-clause-rows c =
    filter_same _ (λ row. not (row.invoke == c.args.invoke)) _ (search rules) _ _ c.retain.ensures.filtered

pub returns-clause-distinct : goal.returns-clause-distinct
returns-clause-distinct c distinct =
    rw (returns-clause-rows c)
    (AllPairs-filter (λ (one : Waiting) (other : Waiting). one.invoke ≢ other.invoke) (λ row. not (row.invoke == c.args.invoke)) _ distinct)
