use Rattle.std.proofs.Common.{ℕ, ◌∙◌, ap, sym}
use Rattle.std.proofs.lemmas.Result.{on_ok_weaker}
use Rattle.part_table.specs.Held.{held_at}
use Rattle.step_parts.specs.Partition.{semaphores_in}
use Rattle.step_apply.proofs.areas.device_on.Goals as goal

pub returns-clause-served : goal.returns-clause-served
returns-clause-served c =
    on_ok_weaker c.serve_device.result
    (λ served t are.
    served t (record {
      variables = are.variables ∙ sym (c.get.ensures ∙ c.shown-variables.ensures);
      domains = are.domains ∙ sym (c.get-2.ensures ∙ c.shown-domains.ensures);
      programs = are.programs ∙ sym (c.get-3.ensures ∙ c.shown-programs.ensures);
      events = are.events ∙ sym (c.get-4.ensures ∙ c.shown-events.ensures);
      journals = are.journals ∙ sym (c.get-5.ensures ∙ c.shown-journals.ensures);
      semaphores = are.semaphores ∙ sym (c.get-6.ensures ∙ c.shown-semaphores.ensures ∙ ap (λ (k : ℕ). semaphores_in (held_at c.args.held.now k)) c.semaphores.ensures);
    }))
    c.serve_device.ensures.served
