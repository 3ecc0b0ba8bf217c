use Rattle.std.proofs.Common.{◌≡◌, ◌≢◌, ◌++◌, ◌∷◌, [], rules, arith}
use Rattle.std.proofs.lemmas.Result.{err_from_is_err_and}
use Rattle.ber_core.specs.Part.{part}
use Rattle.mms_types.specs.Datum.{row}
use Rattle.ber_forms.specs.Form.{one_of}
use Rattle.ber_forms.proofs.Loop.{one_chosen, cut_fails, choice_fails, all_read}
use Rattle.pdu_data.specs.Data.{data_alternatives, data_value, row_values}
use Rattle.pdu_data.proofs.Rows.{deepest_push, values_push}
use Rattle.pdu_data.proofs.data.+data.Goals as goal

pub members-returns-in_err-element-clause-exact : goal.members-returns-in_err-element-clause-exact
members-returns-in_err-element-clause-exact t c =
    let p = err_from_is_err_and c.from_residual.result c.from_residual.ensures.1 in
    let some : c.loop-parts.parts.octets ≢ [] = search rules in
    rw (p.1, p.2) (cut_fails c.args.lengths (data_alternatives c.args.most) c.in_err-element.field-0.0 (row_values (row c.loop-parts.found.items)) c.loop-parts.parts c.args.contents.now some
    c.in_err-element.ensures.exact c.loop-parts.invariant.0)

pub members-returns-in_err-one-clause-exact : goal.members-returns-in_err-one-clause-exact
members-returns-in_err-one-clause-exact t c =
    let p = err_from_is_err_and c.from_residual-in_err-one.result c.from_residual-in_err-one.ensures.1 in
    let some : c.loop-parts.parts.octets ≢ [] = search rules in
    rw (p.1, p.2) (choice_fails c.args.lengths (data_alternatives c.args.most) c.in_err-one.field-0.0 (row_values (row c.loop-parts.found.items)) c.loop-parts.parts c.part.new.self c.args.contents.now
    (part c.in_ok-element.element) some c.in_ok-element.ensures.exact c.in_err-one.ensures.exact c.loop-parts.invariant.0)

pub members-loop-parts-preserved : goal.members-loop-parts-preserved
members-loop-parts-preserved t c =
    let some : c.loop-parts.parts.octets ≢ [] = search rules in
    let v = c.in_ok-one.field-0 in
    let e : row_values (row c.push.new.self.items) ≡ row_values (row c.loop-parts.found.items) ++ data_value v ∷ [] = rw c.in_ok-push.ensures.items (values_push c.loop-parts.found.items v) in (
      rw e (one_chosen c.args.lengths (data_alternatives c.args.most) (row_values (row c.loop-parts.found.items)) c.loop-parts.parts c.part.new.self c.args.contents.now (part c.in_ok-element.element) (data_value v) some
          c.in_ok-element.ensures.exact c.in_ok-element.ensures.kept c.in_ok-element.ensures.shorter c.in_ok-one.ensures.exact c.loop-parts.invariant.0),
      rw c.in_ok-push.ensures.items (omega (arith, deepest_push c.loop-parts.found.items v, c.loop-parts.invariant.1, c.in_ok-one.ensures.deep)),
    )

pub members-returns-clause-exact : goal.members-returns-clause-exact
members-returns-clause-exact t c =
    let none : c.loop-parts.parts.octets ≡ [] = search rules in
    all_read c.args.lengths (one_of (data_alternatives c.args.most)) (row_values (row c.loop-parts.found.items)) c.loop-parts.parts c.args.contents.now none c.loop-parts.invariant.0
