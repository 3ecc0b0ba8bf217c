use Rattle.std.proofs.Common.{◌≡◌, ◌∙◌, IfNone, IfSome, None, Option, ap, subst, sym}
use Rattle.cell_ticks.specs.Deadlines.{next_due}
use Rattle.cell_ticks.specs.Meant.{state_of}
use Rattle.cell_ticks.specs.Ticks.{Ticking, ticked}
use Rattle.cell_ticks.specs.declared.ticking.DeviceTicked.{DeviceTicked}
use Rattle.cell_ticks.proofs.Coded.{nothing_so}
use Rattle.cell_ticks.proofs.ticking.tick.Goals as goal

pub returns-in-None : goal.returns-in-None
returns-in-None g c =
    let cells = g.C.Cells.says c.args.cells.now in
    let rows = c.args.semaphores.now in
    let conditions = c.args.conditions.now in
    let enrolments = c.args.enrolments.now in
    let none = subst (λ (o : Option DeviceTicked). IfNone o (next_due c.args.until rows conditions ≡ None)) c.in-None.is c.in_ok-tick_told.ensures.none in
    let is = sym (nothing_so cells c.args.until rows conditions enrolments none) in
    record {
      semaphores = ap (λ (t : Ticking). t.semaphores) is;
      conditions = ap (λ (t : Ticking). t.conditions) is;
      enrolments = ap (λ (t : Ticking). t.enrolments) is;
      happened = c.new.ensures.items ∙ ap (λ (t : Ticking). t.happened) is;
      wants = tt;
      kept = tt;
    }

pub returns-in-Some : goal.returns-in-Some
returns-in-Some g c =
    let cells = g.C.Cells.says c.args.cells.now in
    let rows = c.args.semaphores.now in
    let conditions = c.args.conditions.now in
    let enrolments = c.args.enrolments.now in
    let is = subst (λ (o : Option DeviceTicked). IfSome o (λ t. state_of cells c.args.until t rows conditions enrolments ≡ ticked cells c.args.until rows conditions enrolments)) c.in-Some.is
    c.in_ok-tick_told.ensures.met in
    record {
      semaphores = c.put.ensures.semaphores ∙ ap (λ (t : Ticking). t.semaphores) is;
      conditions = c.put.ensures.conditions ∙ ap (λ (t : Ticking). t.conditions) is;
      enrolments = c.put.ensures.enrolments ∙ ap (λ (t : Ticking). t.enrolments) is;
      happened = ap (λ v. v.items) c.put.ensures.happened ∙ ap (λ (t : Ticking). t.happened) is;
      wants = tt;
      kept = tt;
    }
