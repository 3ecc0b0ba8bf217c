use Rattle.std.specs.Prelude.{Option, is_some}
use Rattle.std.proofs.Common.{ℕ, List, ◌∙◌, ap, subst, sym}
use Rattle.association.specs.declared.negotiation.Negotiated.{Negotiated}
use Rattle.parted_state.specs.Cut.{missing}
use Rattle.parted_state.specs.Lifted.{tables_shown}
use Rattle.parted_state.specs.Sets.{IsSetOf}
use Rattle.parted_state.specs.Served as parted
use Rattle.parted_state.proofs.SetLaws.{missing_set}
use Rattle.cell_services.specs.Serving.{also_lost, loss_asks}
use Rattle.step_parts.specs.Needs.{client_parts, placed}
use Rattle.step_parts.specs.Partition.{cell}
use Rattle.step_parts.proofs.Needed.{first_by_test, next_by_test}
use Rattle.step_parts.proofs.Others.{told_set}
use Rattle.step_needs.proofs.Asked.{copied_some}
use Rattle.step_needs.proofs.Lost.{lost_asks}
use Rattle.step_needs.proofs.heard.Sight.lost_need.Goals as goal

pub returns-then-not-is_empty : goal.returns-then-not-is_empty
returns-then-not-is_empty c =
    let s = c.args.self in
    let asks = placed s.clients (loss_asks s.part.now.row.association) in
    first_by_test s.held.now asks _ c.missing-missing.result
    (missing_set s.held.now c.loss_parts.result asks c.missing-missing.result
    (lost_asks s.clients s.part.now.row.association c.is_some-lost.result c.loss_parts.result
    (c.is_some-lost.ensures ∙ sym (copied_some c.negotiated.result) ∙ ap (λ (o : Option Negotiated). is_some o) c.negotiated.ensures) c.loss_parts.ensures) c.missing-missing.ensures)
    (sym c.is_empty.ensures ∙ c.if-not-is_empty.true)

pub returns : goal.returns
returns c =
    let s = c.args.self in
    let asks = placed s.clients (loss_asks s.part.now.row.association) in
    let also = also_lost s.part.now.row.association s.part.now.row.client (tables_shown cell s.held.now) in
    next_by_test s.held.now asks (parted.told_places cell also s.clients) c.missing-missing.result
    (missing_set s.held.now c.loss_parts.result asks c.missing-missing.result
    (lost_asks s.clients s.part.now.row.association c.is_some-lost.result c.loss_parts.result
    (c.is_some-lost.ensures ∙ sym (copied_some c.negotiated.result) ∙ ap (λ (o : Option Negotiated). is_some o) c.negotiated.ensures) c.loss_parts.ensures) c.missing-missing.ensures)
    (sym c.is_empty.ensures ∙ c.if-not-is_empty.false) c.untold.result
    (told_set s.held.now also c.in_ok-told.told.items s.clients c.untold.result (λ k free. c.in_ok-told.ensures k)
    (subst (λ (l : List ℕ). IsSetOf c.untold.result (missing s.held.now (client_parts s.clients l))) c.deref.ensures.value c.untold.ensures))
