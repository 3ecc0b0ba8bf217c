use Rattle.stress_laws.proofs.Whole.{replies}
use Rattle.stress_laws.proofs.laws.stress_is_answered.Goals as goal

pub returns : goal.returns
returns c = record { replies = replies }
