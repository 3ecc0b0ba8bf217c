use Rattle.std.proofs.Common.{sym, ◌∙◌, subst}
use Rattle.std.proofs.lemmas.Result.{IfOk-weaker}
use Rattle.parted_state.proofs.SetLaws.{missing_set}
use Rattle.parted_state.specs.Sets.{IsSetOf}
use Rattle.cell_client.specs.Meant.{meant}
use Rattle.parted_state.specs.Lifted.{tables_shown}
use Rattle.step_parts.specs.Partition.{cell}
use Rattle.cell_services.specs.Serving.{heard_asks, heard_more}
use Rattle.step_parts.specs.Needs.{also_parts, placed}
use Rattle.step_needs.proofs.Asked.{second_by_test, third_by_test}
use Rattle.step_parts.proofs.Needed.{first_by_test}
use Rattle.step_needs.proofs.Own.{own_needs_nothing}
use Rattle.step_needs.proofs.heard.Sight.found_need.Goals as goal

pub returns-then-is_own : goal.returns-then-is_own
returns-then-is_own c =
    let s = c.args.self in
    subst (IsSetOf c.new.result) (sym (own_needs_nothing s.clients s.held.now s.part.now.row (meant c.args.found.now) (sym c.is_own.ensures ∙ c.if-is_own.true))) c.new.ensures.set

pub returns-then-not-is_empty : goal.returns-then-not-is_empty
returns-then-not-is_empty c =
    let s = c.args.self in
    let words = placed s.clients (heard_asks (meant c.args.found.now)) in
    first_by_test s.held.now words _ c.missing-missing.result (missing_set s.held.now c.heard_asks.result words c.missing-missing.result c.heard_asks.ensures c.missing-missing.ensures)
    (sym c.is_empty.ensures ∙ c.if-not-is_empty.true)

pub returns-then-not-is_empty-2 : goal.returns-then-not-is_empty-2
returns-then-not-is_empty-2 c =
    let s = c.args.self in
    let words = placed s.clients (heard_asks (meant c.args.found.now)) in
    let more = placed s.clients (heard_more (tables_shown cell s.held.now) s.part.now.row (meant c.args.found.now)) in
    second_by_test s.held.now words more _ c.missing-missing.result c.missing-missing-2.result
    (missing_set s.held.now c.heard_asks.result words c.missing-missing.result c.heard_asks.ensures c.missing-missing.ensures) (sym c.is_empty.ensures ∙ c.if-not-is_empty.false)
    (missing_set s.held.now c.in_ok-heard_more.field-0 more c.missing-missing-2.result c.in_ok-heard_more.ensures c.missing-missing-2.ensures) (sym c.is_empty-2.ensures ∙ c.if-not-is_empty-2.true)

pub returns : goal.returns
returns c =
    let s = c.args.self in
    let words = placed s.clients (heard_asks (meant c.args.found.now)) in
    let more = placed s.clients (heard_more (tables_shown cell s.held.now) s.part.now.row (meant c.args.found.now)) in
    IfOk-weaker c.also_need.result _ _
    (λ parts is.
    third_by_test s.held.now words more (also_parts s.clients s.held.now s.part.now.row (meant c.args.found.now)) c.missing-missing.result c.missing-missing-2.result parts
    (missing_set s.held.now c.heard_asks.result words c.missing-missing.result c.heard_asks.ensures c.missing-missing.ensures) (sym c.is_empty.ensures ∙ c.if-not-is_empty.false)
    (missing_set s.held.now c.in_ok-heard_more.field-0 more c.missing-missing-2.result c.in_ok-heard_more.ensures c.missing-missing-2.ensures) (sym c.is_empty-2.ensures ∙ c.if-not-is_empty-2.false)
    is)
    c.also_need.ensures
