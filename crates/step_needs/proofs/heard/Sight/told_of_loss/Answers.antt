use Rattle.std.proofs.Common.{◌∙◌, ℕ, ap, sym}
use Rattle.std.proofs.lemmas.Result.{IfOk-weaker}
use Rattle.part_table.specs.Held.{held_at}
use Rattle.parted_state.specs.Lifted.{tables_shown}
use Rattle.step_parts.specs.Partition.{cell, semaphores_in}
use Rattle.step_parts.proofs.Shown.{shown_now, shown_semaphores}
use Rattle.step_needs.proofs.heard.Sight.told_of_loss.Goals as goal

pub returns : goal.returns
returns c =
    let s = c.args.self in
    IfOk-weaker c.loss_told.result _ _
    (λ told tells.
    tells (tables_shown cell s.held.now)
    (shown_semaphores s.held.now s.clients c.requires.sight.many
    ∙ sym (c.get.ensures ∙ c.shown-rows.ensures ∙ ap (λ (p : ℕ). semaphores_in (held_at s.held.now p)) c.semaphores.ensures))
    (shown_now s.held.now ∙ sym c.now_held.ensures.moment))
    c.loss_told.ensures
