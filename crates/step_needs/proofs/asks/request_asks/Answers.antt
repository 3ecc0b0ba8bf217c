use Rattle.std.proofs.Common.{◌∙◌, ◌∷◌, ◌++◌, Bool, List, ℕ, [], ap, sym, subst}
use Rattle.std.specs.List.{flat_map}
use Rattle.std.specs.Prelude.{Option, false, is_some, if◌then◌else◌}
use Rattle.mms_types.specs.declared.variable.Spec.{Spec}
use Rattle.parted_state.specs.Sets.{IsSetOf}
use Rattle.cell_client.specs.Facts.{Question}
use Rattle.serve_events.specs.Turns.{variable_asked}
use Rattle.cell_services.proofs.AreaTableLaws.{in_domains, in_events, in_journals, in_semaphores, in_variables}
use Rattle.cell_services.specs.Facts.{cell_tables, domain_tables, scope_tables, tables_for}
use Rattle.cell_services.specs.Services.{InArea, area_of, asks_of}
use Rattle.cell_services.specs.Tables.{clock_table, conditions_table, domains_table, journals_table, semaphores_table, variables_table}
use Rattle.step_parts.specs.Needs.{placed}
use Rattle.step_needs.proofs.Asked.{asks_parts, copied_some, scope_asks}
use Rattle.step_needs.proofs.asks.request_asks.Goals as goal

pub returns-in-Variables : goal.returns-in-Variables
returns-in-Variables c =
    asks_parts c.args.clients c.args.asked.now _ (variables_table ∷ []) c.names_domain.result false c.used.result
    (sym (in_variables c.in-Variables.asked) ∙ ap area_of c.in-Variables.ensures)
    (ap (λ (words : List Question). variables_table ∷ flat_map tables_for words) c.names_domain.ensures) c.used.ensures

pub returns-in-Semaphores : goal.returns-in-Semaphores
returns-in-Semaphores c =
    asks_parts c.args.clients c.args.asked.now _ (semaphores_table ∷ clock_table ∷ []) c.names_domain-in-Semaphores.result false c.used-in-Semaphores.result
    (sym (in_semaphores c.in-Semaphores.asked) ∙ ap area_of c.in-Semaphores.ensures)
    (ap (λ (words : List Question). semaphores_table ∷ flat_map tables_for words) c.names_domain-in-Semaphores.ensures)
    (subst (λ (p : ℕ). IsSetOf c.used-in-Semaphores.result (p ∷ clock_table ∷ (domain_tables c.names_domain-in-Semaphores.result ++ []))) c.semaphores.ensures c.used-in-Semaphores.ensures)

pub returns-in-Domains : goal.returns-in-Domains
returns-in-Domains c =
    subst (IsSetOf c.scoped.result)
    (ap (λ (b : Bool). placed c.args.clients (domains_table ∷ (if b then scope_tables else []))) c.is_some.ensures
    ∙ ap (λ (l : List ℕ). placed c.args.clients (domains_table ∷ l)) (sym (scope_asks _ c.scope_asked.result c.scope_asked.ensures))
    ∙ ap (λ (a : InArea). placed c.args.clients (asks_of a)) (sym (in_domains c.in-Domains.asked) ∙ ap area_of c.in-Domains.ensures))
    c.scoped.ensures

pub returns-in-Events : goal.returns-in-Events
returns-in-Events c =
    asks_parts c.args.clients c.args.asked.now _ (conditions_table ∷ clock_table ∷ []) c.names_domain-in-Events.result (is_some (variable_asked c.in-Events.asked)) c.used-in-Events.result
    (sym (in_events c.in-Events.asked) ∙ ap area_of c.in-Events.ensures)
    (ap (λ (words : List Question). conditions_table ∷ flat_map tables_for words) c.names_domain-in-Events.ensures)
    (subst (λ (b : Bool). IsSetOf c.used-in-Events.result (conditions_table ∷ clock_table ∷ (domain_tables c.names_domain-in-Events.result ++ cell_tables b)))
    (c.is_some-of_cell.ensures ∙ sym (copied_some c.variable_asked.result) ∙ ap (λ (o : Option Spec). is_some o) c.variable_asked.ensures) c.used-in-Events.ensures)

pub returns-in-Journals : goal.returns-in-Journals
returns-in-Journals c =
    asks_parts c.args.clients c.args.asked.now _ (journals_table ∷ []) c.names_domain-in-Journals.result false c.used-in-Journals.result
    (sym (in_journals c.in-Journals.asked) ∙ ap area_of c.in-Journals.ensures)
    (ap (λ (words : List Question). journals_table ∷ flat_map tables_for words) c.names_domain-in-Journals.ensures) c.used-in-Journals.ensures
