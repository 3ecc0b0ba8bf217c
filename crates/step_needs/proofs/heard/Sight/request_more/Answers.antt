use Rattle.std.proofs.Common.{◌∙◌, ap, sym, subst}
use Rattle.std.specs.List.{flat_map}
use Rattle.parted_state.specs.Lifted.{tables_shown}
use Rattle.parted_state.specs.Sets.{IsSetOf}
use Rattle.serve_events.specs.Events.{request_in}
use Rattle.cell_services.proofs.AreaTableLaws.{in_events}
use Rattle.cell_services.specs.Facts.{tables_for}
use Rattle.cell_services.specs.Services.{InArea, area_of, more_of}
use Rattle.cell_services.specs.Tables.{Tables}
use Rattle.step_parts.specs.Needs.{placed}
use Rattle.step_parts.specs.Partition.{cell}
use Rattle.step_parts.proofs.Shown.{shown_own}
use Rattle.step_needs.proofs.heard.Sight.request_more.Goals as goal

pub returns-in-Events : goal.returns-in-Events
returns-in-Events c =
    let row = c.args.self.part.now.row in
    subst (IsSetOf c.cell_asked.result)
    (ap (placed c.args.self.clients)
    (ap (λ (t : Tables). flat_map tables_for ((request_in c.in-Events.asked).more t.events row)) (shown_own c.args.self.held.now)
    ∙ ap (λ (a : InArea). more_of (tables_shown cell c.args.self.held.now) row a) (sym (in_events c.in-Events.asked) ∙ ap area_of c.in-Events.ensures)))
    c.cell_asked.ensures
