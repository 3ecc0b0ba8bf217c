use Rattle.std.proofs.Common.{ap, option_and_then}
use Rattle.event_cond.specs.Conditions.{class_evaluated, move_told, moved}
use Rattle.event_ticks.proofs.Changes.{commute, named_still}
use Rattle.event_ticks.proofs.laws.evaluations_commute.Goals as goal

pub returns : goal.returns
returns c = record {
  rows = λ one other first second a b rows apart.
      commute one other apart (λ d. moved first (class_evaluated first a d.class) d) (λ d. moved second (class_evaluated second b d.class) d) rows;
  told = λ one other first second a b rows apart.
      ap (option_and_then (λ d. move_told other second (class_evaluated second b d.class) d)) (named_still one other apart (λ d. moved first (class_evaluated first a d.class) d) rows);
}
