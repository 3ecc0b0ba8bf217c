use Rattle.std.proofs.Common.{◌∙◌, Option, Some, ap, sym}
use Rattle.mms_types.specs.declared.variable.Spec.{Spec}
use Rattle.parted_state.specs.Lifted.{tables_shown}
use Rattle.cell_services.specs.Facts.{cell_of}
use Rattle.variable_services.specs.declared.tables.VariableTables.{VariableTables}
use Rattle.step_parts.specs.Partition.{cell}
use Rattle.step_apply.proofs.EventFacts.{cell_told}
use Rattle.step_parts.proofs.Shown.{shown_variables}
use Rattle.step_apply.proofs.events.cell_held.Goals as goal

pub returns-in_default : goal.returns-in_default
returns-in_default c row =
    cell_told c.args.asked (tables_shown cell c.args.held.now) row c.args.client
    ∙ ap (λ (o : Option Spec). cell_of o (tables_shown cell c.args.held.now).variables.vars c.args.client) (sym c.in_default.ensures)

pub returns : goal.returns
returns c row =
    cell_told c.args.asked (tables_shown cell c.args.held.now) row c.args.client
    ∙ ap (λ (o : Option Spec). cell_of o (tables_shown cell c.args.held.now).variables.vars c.args.client) (sym c.in-Some.ensures)
    ∙ ap (λ (v : VariableTables). cell_of (Some c.in-Some.variable.now) v.vars c.args.client) (shown_variables c.args.held.now ∙ sym (c.get.ensures ∙ c.shown-variables.ensures))
    ∙ sym c.cell_fact.ensures
