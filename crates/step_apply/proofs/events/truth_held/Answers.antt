use Rattle.std.proofs.Common.{◌∙◌, None, Some, ap, sym}
use Rattle.parted_state.specs.Lifted.{tables_shown}
use Rattle.serve_events.specs.Events.{request_in}
use Rattle.serve_events.specs.declared.tables.EventTables.{EventTables}
use Rattle.cell_services.specs.Facts.{is_true}
use Rattle.cell_services.proofs.AreaLaws.{events_truth}
use Rattle.variable_services.specs.declared.tables.VariableTables.{VariableTables}
use Rattle.step_parts.specs.Partition.{cell}
use Rattle.step_parts.proofs.Shown.{shown_events, shown_variables}
use Rattle.step_apply.proofs.events.truth_held.Goals as goal

pub returns-in_default : goal.returns-in_default
returns-in_default c row same =
    events_truth c.args.asked (tables_shown cell c.args.held.now) row None
    (ap (λ (e : EventTables). (request_in c.args.asked).more e row) (shown_events c.args.held.now ∙ sym (c.get.ensures ∙ c.shown-events.ensures)) ∙ c.in_default.ensures row same)

pub returns : goal.returns
returns c row same =
    events_truth c.args.asked (tables_shown cell c.args.held.now) row (Some c.in-Some.cell)
    (ap (λ (e : EventTables). (request_in c.args.asked).more e row) (shown_events c.args.held.now ∙ sym (c.get.ensures ∙ c.shown-events.ensures)) ∙ c.in-Some.ensures row same)
    ∙ ap (λ (v : VariableTables). is_true (Some c.in-Some.cell) v.vars) (shown_variables c.args.held.now ∙ sym (c.get-2.ensures ∙ c.shown-variables.ensures))
    ∙ sym c.says_true.ensures
