use Rattle.event_cond.proofs.Multiples.{is_least, is_multiple, lies_after}
use Rattle.event_cond.proofs.laws.a_least_multiple_is_the_least.Goals as goal

pub returns : goal.returns
returns c = record { multiple = is_multiple; after = lies_after; least = is_least }
