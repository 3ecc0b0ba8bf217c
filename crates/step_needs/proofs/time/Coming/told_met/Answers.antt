use Rattle.std.proofs.Common.{◌≡◌, ◌==◌, IfSome, ℕ, Option, subst}
use Rattle.std.specs.List.{list_any}
use Rattle.std.proofs.lemmas.Result.{IfOk-weaker}
use Rattle.part_table.specs.Held.{held_at}
use Rattle.parted_state.specs.Served.{is_told}
use Rattle.cell_services.specs.Serving.{all_told, saying}
use Rattle.cell_ticks.specs.Meant.{state_of}
use Rattle.cell_ticks.specs.Ticks.{ticked}
use Rattle.cell_ticks.specs.declared.ticking.DeviceTicked.{DeviceTicked}
use Rattle.step_parts.specs.Partition.{variables_in}
use Rattle.step_needs.proofs.TimeNeeds.{told_met}
use Rattle.step_needs.proofs.time.Coming.told_met.Goals as goal

pub returns-in-Some-clause-told : goal.returns-in-Some-clause-told
returns-in-Some-clause-told c =
    let s = c.args.self in
    let variables = variables_in (held_at s.held.now 1) in
    IfOk-weaker c.told_meanwhile.result (λ clients. (k : ℕ) → is_told (all_told c.deref.result.now) k ≡ list_any (λ x. x == k) clients.items) _
    (λ clients is.
    told_met variables s.until s.semaphores.now s.events.now c.in-Some.ticked c.deref.result.now clients.items
    (subst (λ (o : Option DeviceTicked). IfSome o (λ t. state_of (saying variables) s.until t s.semaphores.now s.events.now.conditions s.events.now.enrolments
    ≡ ticked (saying variables) s.until s.semaphores.now s.events.now.conditions s.events.now.enrolments)) c.in-Some.is c.in_ok-met.ensures.met)
    c.deref.ensures.value is)
    c.told_meanwhile.ensures.told
