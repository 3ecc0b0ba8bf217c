use Rattle.std.proofs.Common.{◌∙◌}
use Rattle.event_enrol.proofs.Kept.{lost_alike}
use Rattle.event_enrol.proofs.enrolments.Enrolments.lose.Goals as goal

pub returns : goal.returns
returns c = c.take_out.ensures ∙ lost_alike c.args.client c.args.self.now
