use Rattle.std.proofs.Common.{rules, not, ◌==◌, ◌≢◌, ◌<◌}
use Rattle.std.proofs.lemmas.Fn.{filter_same}
use Rattle.std.proofs.lemmas.List.Elements.{All-filter}
use Rattle.std.proofs.lemmas.List.Kept.{AllPairs-filter}
use Rattle.association.specs.declared.unanswered.Unanswered.{Unanswered}
use Rattle.association.proofs.unanswered.remove_asked.Goals as goal

pub returns-clause-rows : goal.returns-clause-rows
returns-clause-rows c =
    filter_same _ (λ row. not (row.invoke == c.args.invoke)) _ (search rules) _ _ c.retain.ensures.filtered

pub returns-clause-apart : goal.returns-clause-apart
returns-clause-apart c apart =
    rw (returns-clause-rows c)
    (AllPairs-filter (λ (one : Unanswered) (other : Unanswered). one.invoke ≢ other.invoke) (λ row. not (row.invoke == c.args.invoke)) _ apart)

pub returns-clause-below : goal.returns-clause-below
returns-clause-below c next below =
    rw (returns-clause-rows c)
    (All-filter (λ row. not (row.invoke == c.args.invoke)) (λ (row : Unanswered). row.invoke < next) _ below)
