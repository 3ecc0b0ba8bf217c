use Rattle.std.proofs.Common.{ℕ, List, ◌∙◌, subst, sym}
use Rattle.parted_state.specs.Cut.{missing}
use Rattle.parted_state.specs.Sets.{IsSetOf}
use Rattle.step_parts.specs.Needs.{client_parts}
use Rattle.step_needs.proofs.TimeNeeds.{time_first, time_next}
use Rattle.step_needs.proofs.time.Coming.need.Goals as goal

pub returns-then-not-is_empty-clause-need : goal.returns-then-not-is_empty-clause-need
returns-then-not-is_empty-clause-need c ms is =
    let s = c.args.self in
    time_first s.held.now c.args.clients ms s.until s.semaphores.now s.events.now is.many is.until is.semaphores is.events c.is_due-is_due.result
    c.deref.result.now c.is_due-is_due.ensures (c.deref.ensures.value ∙ c.in_ok-happened.ensures.happened) c.time_asks.result c.missing-missing.result (c.time_asks.ensures c.args.clients)
    c.missing-missing.ensures (sym c.is_empty.ensures ∙ c.if-not-is_empty.true)

pub returns-clause-need : goal.returns-clause-need
returns-clause-need c ms is =
    let s = c.args.self in
    time_next s.held.now c.args.clients ms s.until s.semaphores.now s.events.now is.many is.until is.semaphores is.events c.is_due-is_due.result
    c.deref.result.now c.is_due-is_due.ensures (c.deref.ensures.value ∙ c.in_ok-happened.ensures.happened) c.time_asks.result c.missing-missing.result (c.time_asks.ensures c.args.clients)
    c.missing-missing.ensures (sym c.is_empty.ensures ∙ c.if-not-is_empty.false) c.in_ok-told.told.items c.untold.result c.in_ok-told.ensures.told
    (subst (λ (l : List ℕ). IsSetOf c.untold.result (missing s.held.now (client_parts c.args.clients l))) c.deref-3.ensures.value c.untold.ensures)
