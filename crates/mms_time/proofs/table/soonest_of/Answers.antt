use Rattle.std.proofs.Common.{ap, option_map}
use Rattle.mms_time.specs.Deadlines.{NamedDeadline}
use Rattle.mms_time.proofs.table.soonest_of.Goals as goal

pub returns-in-Some : goal.returns-in-Some
returns-in-Some c = ap (option_map (λ (d : NamedDeadline). d.at)) c.in-Some.ensures.least
