use Rattle.std.proofs.Common.{◌≡◌, ◌∙◌, Some, ap, refl, sym, subst}
use Rattle.mms_types.specs.Areas.{event_request}
use Rattle.cell_client.specs.Association.{Takes}
use Rattle.serve_events.specs.Turns.{turned_after}
use Rattle.cell_services.specs.Acts.{all_done}
use Rattle.cell_services.specs.Serving.{hears}
use Rattle.cell_services.specs.Tables.{own_events}
use Rattle.cell_services.proofs.AreaLaws.{events_served, events_told}
use Rattle.step_parts.specs.declared.part.Part.{Part}
use Rattle.step_parts.specs.Partition.{events_in}
use Rattle.step_parts.proofs.Found.{if_none, if_some}
use Rattle.step_apply.proofs.events.EventRequestOnParts.serve.Goals as goal

pub returns-in-None-clause-served : goal.returns-in-None-clause-served
returns-in-None-clause-served c t ordered stood beside told =
    let row = c.args.client.now.row in
    let facts = c.args.facts in
    events_served c.args.self.now row c.args.invoke facts.now facts.is_true c.in-Events.rows facts.live facts.cell t c.serve.new.tables c.serve.new.own
    (if_none c.in_ok-serve-in-Events.field-0 c.in-None.is c.in_ok-serve-in-Events.ensures.served)
    (stood ∙ ap (λ (p : Part). events_in (Some p)) c.in-Events.is) told.now (told.live row) (told.watched row) (told.truth row refl)

pub returns-clause-left : goal.returns-clause-left
returns-clause-left c t ordered stood told =
    let row = c.args.client.now.row in
    let asked = c.args.self.now in
    let facts = c.args.facts in
    subst (λ (p : Part). hears t row row.client (Takes c.args.invoke (event_request asked))
    ≡ all_done (own_events.put (turned_after row.client facts.now facts.is_true asked (events_in (Some p))) t) c.in-Some.left.told.items)
    (sym c.in-Events.is)
    (events_told asked row c.args.invoke facts.now facts.is_true c.in-Events.rows t (turned_after row.client facts.now facts.is_true asked c.in-Events.rows) c.in-Some.left.told.items
    (if_some _ c.in_ok-serve-in-Events.field-0 c.in-Some.left c.in-Some.is c.in_ok-serve-in-Events.ensures.left)
    (stood ∙ ap (λ (p : Part). events_in (Some p)) c.in-Events.is) told.now (told.truth row refl))
