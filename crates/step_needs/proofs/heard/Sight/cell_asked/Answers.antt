use Rattle.std.proofs.Common.{◌∙◌, ◌≡◌, ◌∷◌, List, [], ap, sym, subst}
use Rattle.std.specs.List.{flat_map}
use Rattle.std.specs.Prelude.{false, is_some}
use Rattle.part_table.specs.Held.{held_at}
use Rattle.parted_state.specs.Sets.{IsSetOf}
use Rattle.cell_client.specs.Facts.{Question, Truth}
use Rattle.serve_events.specs.Events.{request_in}
use Rattle.serve_events.specs.declared.tables.EventTables.{EventTables}
use Rattle.cell_services.specs.Facts.{cell_tables, tables_for}
use Rattle.step_parts.specs.Needs.{placed}
use Rattle.step_parts.specs.Partition.{events_in}
use Rattle.step_needs.proofs.Asked.{asked_places}
use Rattle.step_needs.proofs.heard.Sight.cell_asked.Goals as goal

pub returns : goal.returns
returns c =
    let row = c.args.self.part.now.row in
    let more : (request_in c.args.asked).more (events_in (held_at c.args.self.held.now 4)) row ≡ Truth c.cell_watched-cell.result ∷ [] =
    ap (λ (e : EventTables). (request_in c.args.asked).more e row) (sym (c.get.ensures ∙ c.shown-events.ensures)) ∙ c.cell_watched-cell.ensures row (sym c.client.ensures) in
    subst (IsSetOf c.used.result)
    (ap cell_tables c.is_some.ensures ∙ sym (asked_places c.args.self.clients false (is_some c.cell_watched-cell.result))
    ∙ ap (λ (words : List Question). placed c.args.self.clients (flat_map tables_for words)) (sym more))
    c.used.ensures
