use Rattle.std.proofs.Common.{◌≡◌, ◌∙◌, Some, ap, sym, subst}
use Rattle.mms_types.specs.Areas.{semaphore_request}
use Rattle.cell_client.specs.Association.{Takes}
use Rattle.serve_semaphores.specs.Tokens.{told_after}
use Rattle.cell_services.specs.Acts.{all_done}
use Rattle.cell_services.specs.Serving.{hears}
use Rattle.cell_services.specs.Tables.{own_semaphores}
use Rattle.cell_services.proofs.AreaLaws.{semaphores_served, semaphores_told}
use Rattle.step_parts.specs.declared.part.Part.{Part}
use Rattle.step_parts.specs.Partition.{semaphores_in}
use Rattle.step_parts.proofs.Found.{if_none, if_some}
use Rattle.step_apply.proofs.areas.SemaphoreRequestOnParts.serve.Goals as goal

pub returns-in-None-clause-served : goal.returns-in-None-clause-served
returns-in-None-clause-served c t ordered stood beside told =
    semaphores_served c.args.self.now c.args.client.now.row c.args.invoke c.args.facts.0 c.args.facts.1 c.in-Semaphores.rows t c.serve.new.rows c.serve.new.own
    (if_none c.in_ok-serve-in-Semaphores.field-0 c.in-None.is c.in_ok-serve-in-Semaphores.ensures.served) (stood ∙ ap (λ (p : Part). semaphores_in (Some p)) c.in-Semaphores.is) told.0 told.1

pub returns-clause-left : goal.returns-clause-left
returns-clause-left c t ordered stood told =
    let row = c.args.client.now.row in
    let asked = c.args.self.now in
    subst (λ (p : Part). hears t row row.client (Takes c.args.invoke (semaphore_request asked))
    ≡ all_done (own_semaphores.put (told_after row.client c.args.facts.0 asked (semaphores_in (Some p))) t) c.in-Some.told.items)
    (sym c.in-Semaphores.is)
    (semaphores_told asked row c.args.invoke c.args.facts.0 c.args.facts.1 c.in-Semaphores.rows t (told_after row.client c.args.facts.0 asked c.in-Semaphores.rows) c.in-Some.told.items
    (if_some _ c.in_ok-serve-in-Semaphores.field-0 c.in-Some.told c.in-Some.is c.in_ok-serve-in-Semaphores.ensures.left)
    (stood ∙ ap (λ (p : Part). semaphores_in (Some p)) c.in-Semaphores.is) told.0)
