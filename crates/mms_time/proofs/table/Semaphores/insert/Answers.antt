use Rattle.mms_time.proofs.Bounded.{none_added}
use Rattle.mms_time.proofs.table.Semaphores.insert.Goals as goal

pub invariant_of-self-in-Ok : goal.invariant_of-self-in-Ok
invariant_of-self-in-Ok c = (
  none_added c.self.inside.soonest _ c.self.inside.rows _ c.args.key c.args.value c.deadline.result c.self.invariant.0 c.deadline.ensures.least c.sooner_of-soonest.ensures c.in-Ok.ensures.placed,
  λ yes. absurd (cc yes),
)
