use Rattle.std.proofs.Common.{◌≡◌, ◌+◌, ℕ, None, IfNone, IfSome, Option, ap₂, filter_map, subst}
use Rattle.cell_ticks.specs.Deadlines.{next_due}
use Rattle.cell_ticks.specs.Meant.{loss_in, state_of}
use Rattle.cell_ticks.specs.Ticks.{ticked}
use Rattle.cell_ticks.specs.declared.ticking.DeviceTicked.{DeviceTicked}
use Rattle.cell_services.specs.Serving.{saying}
use Rattle.cell_services.proofs.TimeLaws.{none_planned, ticks_may, ticks_planned}
use Rattle.cell_services.proofs.planning.time_planned.Goals as goal

pub returns-in-None-clause-done : goal.returns-in-None-clause-done
returns-in-None-clause-done c =
    let t = c.tables.inside in
    none_planned c.args.ms _ c.args.tables.now c.tables.view_is _ (record { 0 = c.now.result.0 + c.from.result }) (ap₂ (λ (a b : ℕ). a + b) c.now.ensures.moment c.from.ensures)
    (subst (λ (o : Option DeviceTicked). IfNone o (next_due (record { 0 = c.now.result.0 + c.from.result }) t.semaphores t.events.conditions ≡ None)) c.in-None.is
    c.in_ok-tick_told.ensures.none)
    c.new.ensures.items

pub returns-in-Some-clause-done : goal.returns-in-Some-clause-done
returns-in-Some-clause-done c =
    let t = c.tables.inside in
    ticks_planned c.args.ms _ c.args.tables.now c.tables.view_is c.in-Some.ticked c.ticked_plan.result (record { 0 = c.now.result.0 + c.from.result })
    (ap₂ (λ (a b : ℕ). a + b) c.now.ensures.moment c.from.ensures)
    (subst
    (λ (o : Option DeviceTicked). IfSome o (λ d. state_of (saying t.variables) (record { 0 = c.now.result.0 + c.from.result }) d t.semaphores t.events.conditions t.events.enrolments
    ≡ ticked (saying t.variables) (record { 0 = c.now.result.0 + c.from.result }) t.semaphores t.events.conditions t.events.enrolments))
    c.in-Some.is c.in_ok-tick_told.ensures.met)
    (subst (λ (o : Option DeviceTicked). IfSome o (λ d. d.losses.items ≡ filter_map loss_in d.happened.items)) c.in-Some.is c.in_ok-tick_told.ensures.losses)
    c.ticked_plan.ensures.told c.ticked_plan.ensures.change

pub returns-in-Some-clause-may : goal.returns-in-Some-clause-may
returns-in-Some-clause-may c = ticks_may c.args.ms c.args.tables.now c.in-Some.ticked c.ticked_plan.result c.requires c.ticked_plan.ensures.change
