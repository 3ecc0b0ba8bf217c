use Rattle.std.proofs.Common.{ℕ, ◌∙◌, ap, sym}
use Rattle.std.proofs.lemmas.Result.{IfOk-weaker}
use Rattle.parted_state.specs.Lifted.{tables_shown}
use Rattle.part_table.specs.Held.{held_at}
use Rattle.step_parts.specs.Partition.{cell, semaphores_in}
use Rattle.step_parts.proofs.Shown.{shown_events, shown_journals, shown_semaphores, shown_variables}
use Rattle.step_parts.proofs.Scoping.{scoped_asked, scoped_unasked}
use Rattle.step_apply.proofs.domains.DomainRequestOnParts.facts.Goals as goal

pub returns-in_default-clause-told : goal.returns-in_default-clause-told
returns-in_default-clause-told c row = scoped_unasked c.args.self.now (tables_shown cell c.args.held.now) row c.in_default.ensures

pub returns-clause-told : goal.returns-clause-told
returns-clause-told c =
    IfOk-weaker c.is_scope_used.result _ _
    (λ used is row.
    scoped_asked c.args.self.now (tables_shown cell c.args.held.now) row c.in-Some.domain.now c.in-Some.ensures
    ∙ sym (is (tables_shown cell c.args.held.now)
    (shown_variables c.args.held.now ∙ sym (c.get.ensures ∙ c.shown-variables.ensures))
    (shown_events c.args.held.now ∙ sym (c.get-2.ensures ∙ c.shown-events.ensures))
    (shown_journals c.args.held.now ∙ sym (c.get-3.ensures ∙ c.shown-journals.ensures))
    (shown_semaphores c.args.held.now c.args.who.clients c.requires.serving.many
    ∙ sym (c.get-4.ensures ∙ c.shown-semaphores.ensures ∙ ap (λ (k : ℕ). semaphores_in (held_at c.args.held.now k)) c.semaphores.ensures))))
    c.is_scope_used.ensures
