use Rattle.std.proofs.Common.{rules}
use Rattle.event_enrol.proofs.Indexed.{groups_left}
use Rattle.event_enrol.proofs.group.leave.Goals as goal

pub returns : goal.returns
returns c = groups_left _ _ c.args.by.now (λ k v b w g call. search rules) _ _ c.len-distinct.ensures.unique c.retain.ensures.filtered
