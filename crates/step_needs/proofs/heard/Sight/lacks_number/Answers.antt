use Rattle.std.proofs.Common.{◌∙◌, ap, sym}
use Rattle.std.proofs.lemmas.Result.{IfOk-weaker}
use Rattle.mms_types.specs.declared.pdu.Request.{Request}
use Rattle.parted_state.specs.Lifted.{tables_shown}
use Rattle.cell_client.specs.Facts.{no_facts}
use Rattle.cell_services.specs.Services.{area_of, lacks_number}
use Rattle.step_parts.specs.Partition.{cell}
use Rattle.step_parts.proofs.Scoping.{lacks_request}
use Rattle.step_parts.proofs.Shown.{shown_domains}
use Rattle.step_needs.proofs.heard.Sight.lacks_number.Goals as goal

pub returns-in-Domains : goal.returns-in-Domains
returns-in-Domains c =
    let t = tables_shown cell c.args.self.held.now in
    let row = c.args.self.part.now.row in
    IfOk-weaker c.lacks_number.result _ _
    (λ lacks is.
    lacks_request t row c.args.invoke c.in-Domains.asked c.get.result.now lacks (shown_domains c.args.self.held.now ∙ sym (c.get.ensures ∙ c.shown-domains.ensures)) (is no_facts)
    ∙ ap (λ (r : Request). lacks_number t row c.args.invoke (area_of r)) c.in-Domains.ensures)
    c.lacks_number.ensures
