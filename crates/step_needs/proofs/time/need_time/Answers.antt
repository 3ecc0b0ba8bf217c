use Rattle.std.proofs.Common.{◌+◌, ◌∙◌, ℕ, ap, ap₂}
use Rattle.std.proofs.lemmas.Result.{IfOk-weaker}
use Rattle.part_table.specs.Held.{held_at}
use Rattle.step_parts.specs.Partition.{semaphores_in}
use Rattle.step_needs.proofs.time.need_time.Goals as goal

pub returns-clause-need : goal.returns-clause-need
returns-clause-need c =
    let hand = c.args.held.now in
    IfOk-weaker c.need.result _ _
    (λ parts is.
    is c.args.ms
    (record {
      many = c.requires.many;
      until = ap₂ (λ (a b : ℕ). a + b) c.now_held.ensures.moment c.from.ensures;
      semaphores = c.get.ensures ∙ c.shown-rows.ensures ∙ ap (λ (p : ℕ). semaphores_in (held_at hand p)) c.semaphores.ensures;
      events = c.get-2.ensures ∙ c.shown-events.ensures;
    }))
    c.need.ensures.need
