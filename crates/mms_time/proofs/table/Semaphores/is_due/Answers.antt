use Rattle.std.proofs.Common.{false, is_some, subst, ◌≡◌}
use Rattle.mms_time.specs.Deadlines.{next_due}
use Rattle.mms_time.specs.Semaphores.{Rows}
use Rattle.mms_time.proofs.Bounded.{not_due}
use Rattle.mms_time.proofs.table.Semaphores.is_due.Goals as goal

pub returns-then-until-self : goal.returns-then-until-self
returns-then-until-self c =
    subst (λ (rows : Rows). false ≡ is_some (next_due c.args.until rows)) c.self.view_is
    (not_due c.args.until c.self.inside.soonest c.self.inside.rows c.self.invariant.0 c.if-until-self.true)
