use Rattle.std.proofs.Common.{◌≡◌, IfSome, drop, length, option_map, take}
use Rattle.object_names.specs.Ranked.{by_name}
use Rattle.event_cond.specs.Evaluations.{evaluation_meant, next_evaluation}
use Rattle.event_cond.proofs.ByName.{IsAhead}
use Rattle.event_cond.proofs.conditions.Conditions.next_evaluation.Given as goal

-- the next evaluation of the conditions up to the place in order of names; its name comes before those that are left
abbrev pub invariant-loop-rank : goal.invariant-loop-rank
invariant-loop-rank l = record {
  least : option_map evaluation_meant l.first ≡ next_evaluation (take l.rank (by_name l.self));
  ahead : IfSome (option_map evaluation_meant l.first) (λ e. IsAhead e (drop l.rank (by_name l.self)));
  end : l.rank-end ≡ length l.self;
}
