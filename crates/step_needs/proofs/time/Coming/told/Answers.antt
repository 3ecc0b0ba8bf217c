use Rattle.std.proofs.Common.{◌≡◌, ◌==◌, ◌∙◌, sym, ℕ}
use Rattle.std.specs.List.{flat_map, list_any}
use Rattle.std.proofs.lemmas.Result.{IfOk-weaker, on_err_weaker}
use Rattle.part_table.specs.Held.{held_at}
use Rattle.parted_state.specs.Served.{is_told}
use Rattle.cell_services.specs.Serving.{happening_told, saying}
use Rattle.step_parts.specs.Partition.{variables_in}
use Rattle.step_needs.proofs.Asked.{happened_is_due}
use Rattle.step_needs.proofs.TimeNeeds.{told_alone}
use Rattle.step_needs.proofs.time.Coming.told.Goals as goal

pub returns-else-is_due-clause-told : goal.returns-else-is_due-clause-told
returns-else-is_due-clause-told c =
    let s = c.args.self in
    IfOk-weaker c.happened_to.result (λ clients. (k : ℕ) → is_told (flat_map happening_told c.args.happened.now) k ≡ list_any (λ x. x == k) clients.items) _
    (λ clients is k.
    told_alone (saying (variables_in (held_at s.held.now 1))) s.until s.semaphores.now s.events.now c.args.happened.now
    (sym c.requires.due ∙ c.if-is_due.false) c.requires.happened k ∙ is k)
    c.happened_to.ensures.told

pub returns-else-is_due-clause-wants : goal.returns-else-is_due-clause-wants
returns-else-is_due-clause-wants c =
    let s = c.args.self in
    on_err_weaker c.happened_to.result (λ some. happened_is_due s.until s.semaphores.now s.events.now.conditions c.args.happened.now c.requires.happened some) c.happened_to.ensures.wants
