use Rattle.std.proofs.Common.{◌≡◌, ℕ, ◌∙◌, Some, ap, sym, subst, arith}
use Rattle.association.specs.Client.{Client as RoomyRow}
use Rattle.cell_client.specs.Areas.{IsServedIn}
use Rattle.cell_client.specs.Facts.{Facts}
use Rattle.mms_time.specs.Guards.{owns_guard}
use Rattle.variables.specs.Access.{flags_of}
use Rattle.part_table.specs.Held.{held_at}
use Rattle.parted_state.specs.Lifted.{tables_shown}
use Rattle.serve_variables.specs.Variables.{guards_asked, request_in}
use Rattle.cell_services.proofs.AreaLaws.{variables_served}
use Rattle.step_parts.specs.declared.part.Part.{Part}
use Rattle.step_parts.specs.declared.part.Part.TheVariants.{Semaphores}
use Rattle.step_parts.specs.Partition.{cell, semaphores_in, variables_in}
use Rattle.step_parts.proofs.Shown.{shown_semaphores}
use Rattle.step_apply.proofs.areas.VariableRequestOnParts.serve.Goals as goal

pub returns-clause-served : goal.returns-clause-served
returns-clause-served c t ordered stood beside told =
    let there : Some (Semaphores t.semaphores) ≡ Some (Semaphores (tables_shown cell c.args.held.now).semaphores) = beside 6 (λ same. omega (arith, same)) in
    let is : t.semaphores ≡ (tables_shown cell c.args.held.now).semaphores = cc there in
    variables_served c.args.self.now t c.args.client.now.row c.args.invoke c.in-Variables.rows c.serve.new.tables c.get.result.now c.args.live c.serve.new.own
    (subst (λ (n : ℕ). (facts : Facts) → facts.live ≡ c.args.live
    → facts.owned ≡ flags_of (λ guard. owns_guard n guard c.get.result.now) (guards_asked c.args.self.now c.args.client.now.row.client c.in-Variables.rows)
    → IsServedIn (request_in c.args.self.now) facts c.args.invoke c.args.client.now.row c.in-Variables.rows c.serve.new.tables c.serve.new.own)
    (c.client.ensures ∙ ap (λ (p : RoomyRow). p.row.client) c.part.ensures) c.in_ok-serve-in-Variables.ensures.served)
    (stood ∙ ap (λ (p : Part). variables_in (Some p)) c.in-Variables.is)
    (is ∙ shown_semaphores c.args.held.now c.args.who.clients c.requires.many
    ∙ sym (c.get.ensures ∙ c.shown-semaphores.ensures ∙ ap (λ (k : ℕ). semaphores_in (held_at c.args.held.now k)) c.semaphores.ensures))
    told
