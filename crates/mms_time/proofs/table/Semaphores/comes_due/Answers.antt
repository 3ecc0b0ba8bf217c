use Rattle.std.proofs.Common.{false, is_some, subst, sym, true, ◌≡◌}
use Rattle.mms_time.specs.Bounds.{IsThere, NoneBefore}
use Rattle.mms_time.specs.Deadlines.{next_due}
use Rattle.mms_time.specs.Semaphores.{Rows}
use Rattle.mms_time.proofs.Bounded.{found_there, none_found, not_due, soonest_found}
use Rattle.mms_time.proofs.table.Semaphores.comes_due.Goals as goal

pub returns-then-until-self-clause-due : goal.returns-then-until-self-clause-due
returns-then-until-self-clause-due c =
    subst (λ (rows : Rows). false ≡ is_some (next_due c.args.until rows)) c.self.view_is
    (not_due c.args.until c.self.inside.soonest c.self.inside.rows c.self.invariant.0 c.if-until-self.true)

pub invariant_of-self : goal.invariant_of-self
invariant_of-self c =
    let rows = c.args.self.now in
    (subst (NoneBefore _) (sym c.self.view_is) (none_found _ rows c.in-None.ensures), λ known. absurd (cc known))

pub invariant_of-self-in-Some : goal.invariant_of-self-in-Some
invariant_of-self-in-Some c =
    let rows = c.args.self.now in
    let at = c.in-Some.at in (
      subst (NoneBefore at) (sym c.self.view_is) (soonest_found at rows c.in-Some.ensures),
      subst (IsThere true at) (sym c.self.view_is) (found_there true at rows c.in-Some.ensures),
    )
