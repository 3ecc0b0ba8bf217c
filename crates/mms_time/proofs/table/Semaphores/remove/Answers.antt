use Rattle.std.proofs.Common.{subst, sym}
use Rattle.mms_types.specs.Order.{key_eq}
use Rattle.mms_time.specs.Bounds.{NoneBefore}
use Rattle.mms_time.proofs.Bounded.{none_removed}
use Rattle.mms_time.proofs.table.Semaphores.remove.Goals as goal

pub invariant_of-self : goal.invariant_of-self
invariant_of-self c = (
  subst (NoneBefore c.self.inside.soonest) (sym c.remove.ensures.rows) (none_removed c.self.inside.soonest (key_eq c.args.key.now) c.self.inside.rows c.self.invariant.0),
  λ yes. absurd (cc yes),
)
