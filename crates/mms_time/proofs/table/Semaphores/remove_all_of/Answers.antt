use Rattle.std.proofs.Common.{not, subst, sym}
use Rattle.mms_types.specs.Order.{scope_eq}
use Rattle.mms_time.specs.Bounds.{NoneBefore}
use Rattle.mms_time.proofs.Bounded.{none_left}
use Rattle.mms_time.proofs.table.Semaphores.remove_all_of.Goals as goal

pub invariant_of-self : goal.invariant_of-self
invariant_of-self c = (
  subst (NoneBefore c.self.inside.soonest) (sym c.remove_all_of.ensures)
      (none_left c.self.inside.soonest (λ row. not (scope_eq row.0.scope c.args.scope.now)) c.self.inside.rows c.self.invariant.0),
  λ yes. absurd (cc yes),
)
