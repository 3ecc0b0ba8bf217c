use Rattle.std.proofs.Common.{◌∙◌, ℕ, ap}
use Rattle.std.proofs.lemmas.Result.{IfOk-weaker}
use Rattle.part_table.specs.Held.{held_at}
use Rattle.cell_client.specs.Meant.{meant}
use Rattle.step_parts.specs.Partition.{semaphores_in}
use Rattle.step_needs.proofs.TimeNeeds.{also_held}
use Rattle.step_needs.proofs.heard.Sight.told_beside.Goals as goal

pub returns : goal.returns
returns c =
    let s = c.args.self in
    IfOk-weaker c.also_told.result _ _
    (λ told tells.
    also_held s.held.now s.clients s.part.now.row (meant c.args.found.now) _ told.items c.requires.sight.many c.now_held.ensures.moment (c.get.ensures ∙ c.shown-variables.ensures)
    (c.get-2.ensures ∙ c.shown-domains.ensures) (c.get-3.ensures ∙ c.shown-events.ensures)
    (c.get-4.ensures ∙ c.shown-rows.ensures ∙ ap (λ (p : ℕ). semaphores_in (held_at s.held.now p)) c.semaphores.ensures) tells)
    c.also_told.ensures
