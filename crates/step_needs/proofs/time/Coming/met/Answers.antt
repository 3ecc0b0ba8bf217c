use Rattle.std.proofs.Common.{◌≡◌, ◌∙◌, subst, IfOk, IfSome}
use Rattle.cell_services.specs.Serving.{saying}
use Rattle.cell_ticks.specs.Meant.{state_of}
use Rattle.cell_ticks.specs.Ticks.{ticked}
use Rattle.variable_services.specs.declared.tables.VariableTables.{VariableTables}
use Rattle.step_needs.proofs.time.Coming.met.Goals as goal

pub returns-clause-met : goal.returns-clause-met
returns-clause-met c =
    let s = c.args.self in
    subst (λ (v : VariableTables). IfOk c.tick_told.result (λ met. IfSome met (λ t. state_of (saying v) s.until t s.semaphores.now s.events.now.conditions s.events.now.enrolments
    ≡ ticked (saying v) s.until s.semaphores.now s.events.now.conditions s.events.now.enrolments)))
    (c.get.ensures ∙ c.shown-variables.ensures) c.tick_told.ensures.met
