use Rattle.event_cond.proofs.Soonest.{next_least, next_none}
use Rattle.event_cond.proofs.laws.the_next_evaluation_is_the_least.Goals as goal

pub returns : goal.returns
returns c = record { least = next_least; none = next_none }
